-- Each command has one answer.
use Rattle.std.proofs.Common.{◌≡◌, ℕ, List, ◌++◌, map, Contains, Some, sym, ap, subst, ◌∙◌}
use Rattle.std.specs.Prelude.{◌↔◌}
use Rattle.ml_io.specs.Files.{FileSet, IsLoaded}
use Rattle.ml_ratio.specs.declared.feature.Feature.{Feature}
use Rattle.ml_cone.specs.Choice.{Choice}
use Rattle.ml_cone.specs.Shown.{AreShown, IsShown}
use Rattle.ml_cone.specs.Slots.{AreSlots, ends}
use Rattle.ml_cone.specs.declared.label.Label.{Label}
use Rattle.ml_cone.specs.declared.slot.Slot.{Slot}
use Rattle.ml_cone.specs.declared.view.View.{View}
use Rattle.ml_flight.specs.Peak.{IsPeak}
use Rattle.ml_flight.specs.Timelines.{AreTimelines}
use Rattle.ml_flight.specs.declared.place.Peak.{Peak}
use Rattle.ml_flight.specs.declared.stay.Stay.{Stay}
use Rattle.ml_flight.specs.declared.window.Window.{Window}
use Rattle.ml_gaps.specs.Gaps.{AreGaps, AreShownGaps, IsShownGap}
use Rattle.ml_gaps.specs.declared.gap.Gap.{Gap}
use Rattle.ml_geojson.specs.Map.{IsMap}
use Rattle.ml_label.specs.Labels.{AreLabelsOf}
use Rattle.ml_label.proofs.lemmas.SamePlaces.{same_listed}
use Rattle.ml_pass.specs.SlotsText.{slots_text}
use Rattle.ml_pass.specs.Table.{IsTable}
use Rattle.ml_style.specs.StyleTable.{IsStyle}
use Rattle.ml_style.specs.declared.style.Style.{Style}
use Rattle.ml_editor.specs.State.{State, first_state}
use Rattle.ml_command.specs.Answers.{IsMapAnswer, IsTableAnswer, IsTableText, IsTextOf, IsViewOf}
use Rattle.ml_command.specs.GapLines.{gap_lines, slot_of}
use Rattle.ml_command.specs.Inputs.{most_bytes}
use Rattle.ml_command.specs.Loading.{IsFirstState}
use Rattle.ml_command.specs.MapInputs.{HasMap, HasStyle}
use Rattle.ml_command.specs.ViewLine.{view_line}
use Rattle.ml_command.specs.Zoom.{IsZoomOf, peak_line, zoom_lines}
use Rattle.ml_command.specs.declared.command.MapTask.{MapTask}
use Rattle.ml_command.specs.declared.command.MapTask.TheVariants.{ViewMap, Zoom}
use Rattle.ml_command.specs.declared.command.TableTask.{TableTask}
use Rattle.ml_command.specs.declared.command.TableTask.TheVariants.{Show, Slots, Gaps, GapView}

-- a name has one file
pub same_file : (files : FileSet) (name one two : List ℕ) → IsLoaded (Some files) name most_bytes one → IsLoaded (Some files) name most_bytes two → one ≡ two
same_file files name one two e f = (let both : Some one ≡ Some two = sym e.file ∙ f.file in cc (both))

-- places that are shown of the same labels are the same
same_places : (labels : List Label) (c : Choice) (view : View) (ps qs : List ℕ) → AreShown labels c view ps → AreShown labels c view qs → ps ≡ qs
same_places labels c view ps qs p q =
    same_listed (IsShown labels c view) (IsShown labels c view) ps qs p.ascending q.ascending p.sound q.sound p.whole q.whole (λ n is. is) (λ n is. is)

same_gap_places : (labels : List Label) (gaps : List Gap) (view : View) (ps qs : List ℕ) → AreShownGaps labels gaps view ps → AreShownGaps labels gaps view qs → ps ≡ qs
same_gap_places labels gaps view ps qs p q =
    same_listed (IsShownGap labels gaps view) (IsShownGap labels gaps view) ps qs p.ascending q.ascending p.sound q.sound p.whole q.whole (λ n is. is) (λ n is. is)

-- ---- tables and labels

-- what is known of the choice: labels have one list of slots
abbrev pub OneChoice : Type 0
OneChoice = (number : ℕ → ℕ) (labels : List Label) (slots others : List Slot) → AreSlots number labels slots → AreSlots number labels others → slots ≡ others

view_again : OneChoice → (labels : List Label) (view : View) (a b : List ℕ) → IsViewOf labels view a → IsViewOf labels view b → a ≡ b
view_again choice labels view a b x y =
    let slots : y.slots ≡ x.slots = choice (λ j. j) labels y.slots x.slots y.best x.best in
    let shown : AreShown labels (ends x.slots) view y.places = rw slots at y.shown in
    let places : x.places ≡ y.places = same_places labels (ends x.slots) view x.places y.places x.shown shown in
    x.line ∙ ap (λ (ps : List ℕ). view_line labels x.slots ps view.scale) places ∙ ap (λ (ss : List Slot). view_line labels ss y.places view.scale) (sym slots) ∙ sym y.line

module _ (tables : (bytes : List ℕ) (labels others : List Label) → IsTable bytes labels → IsTable bytes others → labels ≡ others)
    (choice : OneChoice) (one_gaps : (labels : List Label) (gaps others : List Gap) → AreGaps labels gaps → AreGaps labels others → gaps ≡ others) where
  text_again : (labels : List Label) (task : TableTask) (a b : List ℕ) → IsTableText labels task a → IsTableText labels task b → a ≡ b
  text_again labels (Show view) a b x y = view_again choice labels view a b x y
  text_again labels Slots a b x y = x.lines ∙ ap (slots_text labels) (choice (λ j. j) labels x.slots y.slots x.best y.best) ∙ sym y.lines
  text_again labels Gaps a b x y = x.lines ∙ ap (gap_lines labels) (one_gaps labels x.gaps y.gaps x.are y.are) ∙ sym y.lines
  text_again labels (GapView view) a b x y =
      let gaps : y.gaps ≡ x.gaps = one_gaps labels y.gaps x.gaps y.are x.are in
      let shown : AreShownGaps labels x.gaps view y.places = rw gaps at y.shown in
      let places : x.places ≡ y.places = same_gap_places labels x.gaps view x.places y.places x.shown shown in
      x.line ∙ ap (λ (ps : List ℕ). view_line labels (map slot_of x.gaps) ps view.scale) places ∙ ap (λ (gs : List Gap). view_line labels (map slot_of gs) y.places view.scale) (sym gaps) ∙ sym y.line

  -- what is asked of a named table has one answer
  pub one_table_answer : (files : FileSet) (table : List ℕ) (task : TableTask) (a b : List ℕ) → IsTableAnswer (Some files) table task a → IsTableAnswer (Some files) table task b → a ≡ b
  one_table_answer files table task a b (labels, has, x) (others, had, y) =
      let bytes : had.0 ≡ has.0 = same_file files table had.0 has.0 had.1 has.1 in
      let same : others ≡ labels = tables has.0 others labels (rw bytes at had.2) has.2 in
      text_again labels task a b x (subst (λ (ls : List Label). IsTableText ls task b) same y)

-- ---- maps

module _ (styles : (bytes : List ℕ) (one other : Style) → IsStyle bytes one → IsStyle bytes other → one ≡ other)
    (maps : (bytes : List ℕ) (features others : List Feature) → IsMap bytes features → IsMap bytes others → features ≡ others) where
  same_style : (files : FileSet) (name : List ℕ) (one other : Style) → HasStyle (Some files) name one → HasStyle (Some files) name other → one ≡ other
  same_style files name one other x y =
      let bytes : y.0 ≡ x.0 = same_file files name y.0 x.0 y.1 x.1 in
      styles x.0 one other x.2 (rw bytes at y.2)

  same_map : (files : FileSet) (name : List ℕ) (features others : List Feature) → HasMap (Some files) name features → HasMap (Some files) name others → features ≡ others
  same_map files name features others x y =
      let bytes : y.0 ≡ x.0 = same_file files name y.0 x.0 y.1 x.1 in
      maps x.0 features others x.2 (rw bytes at y.2)

  -- a named style and a named map give one first state
  pub one_first_state : (files : FileSet) (style name : List ℕ) (one other : State) → IsFirstState (Some files) style name one → IsFirstState (Some files) style name other → one ≡ other
  one_first_state files style name one other x y =
      x.is ∙ ap (λ (s : Style). first_state s x.features) (same_style files style x.classes y.classes x.has_style y.has_style)
      ∙ ap (first_state y.classes) (same_map files name x.features y.features x.has_map y.has_map) ∙ sym y.is

  module _ (lists : (style : Style) (features others : List Feature) (labels rest : List Label) →
      ((f : Feature) → Contains features f ↔ Contains others f) → AreLabelsOf style features labels → AreLabelsOf style others rest → labels ≡ rest)
      (choice : OneChoice)
      (timelines : (labels : List Label) (slots : List Slot) (at : Window) (all others : List (List Stay)) → AreTimelines labels slots at all → AreTimelines labels slots at others → all ≡ others)
      (peaks : (all : List (List Stay)) (peak other : Peak) → IsPeak all peak → IsPeak all other → peak ≡ other) where
    zoom_again : (labels : List Label) (window : Window) (a b : List ℕ) → IsZoomOf labels window a → IsZoomOf labels window b → a ≡ b
    zoom_again labels window a b x y =
        let slots : y.slots ≡ x.slots = choice (λ j. j) labels y.slots x.slots y.best x.best in
        let lines : AreTimelines labels x.slots window y.all = rw slots at y.timelines in
        let all : y.all ≡ x.all = timelines labels x.slots window y.all x.all lines x.timelines in
        let peaked : IsPeak x.all y.peak = rw all at y.peaked in
        let peak : x.peak ≡ y.peak = peaks x.all x.peak y.peak x.peaked peaked in
        x.lines ∙ ap (λ (p : Peak). zoom_lines labels x.all ++ peak_line p) peak ∙ ap (λ (ls : List (List Stay)). zoom_lines labels ls ++ peak_line y.peak) (sym all) ∙ sym y.lines

    labels_again : (style : Style) (features : List Feature) (labels others : List Label) → AreLabelsOf style features labels → AreLabelsOf style features others → labels ≡ others
    labels_again style features labels others x y = lists style features features labels others (λ f. (λ h. h, λ h. h)) x y

    map_text_again : (style : Style) (features : List Feature) (task : MapTask) (a b : List ℕ) → IsTextOf style features task a → IsTextOf style features task b → a ≡ b
    map_text_again style features (ViewMap view) a b (labels, are, x) (others, were, y) =
        let same : others ≡ labels = labels_again style features others labels were are in
        view_again choice labels view a b x (subst (λ (ls : List Label). IsViewOf ls view b) same y)
    map_text_again style features (Zoom window) a b (labels, are, x) (others, were, y) =
        let same : others ≡ labels = labels_again style features others labels were are in
        zoom_again labels window a b x (subst (λ (ls : List Label). IsZoomOf ls window b) same y)

    -- what is asked of a named map under a named style has one answer
    pub one_map_answer : (files : FileSet) (style name : List ℕ) (task : MapTask) (a b : List ℕ) → IsMapAnswer (Some files) style name task a → IsMapAnswer (Some files) style name task b → a ≡ b
    one_map_answer files style name task a b x y =
        let classes : y.classes ≡ x.classes = same_style files style y.classes x.classes y.has_style x.has_style in
        let features : y.features ≡ x.features = same_map files name y.features x.features y.has_map x.has_map in
        let one : IsTextOf x.classes y.features task b = subst (λ (s : Style). IsTextOf s y.features task b) classes y.answered in
        map_text_again x.classes x.features task a b x.answered (subst (λ (fs : List Feature). IsTextOf x.classes fs task b) features one)
