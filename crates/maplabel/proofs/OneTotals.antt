-- A generated map that is edited comes to one line of totals.
use Rattle.std.proofs.Common.{◌≡◌, ℕ, ◌*◌, ◌<◌, List, [], ◌∷◌, length, map, get_or, Option, Some, None, refl, sym, ap, subst, ◌∙◌}
use Rattle.std.specs.Prelude.{◌↔◌, MatchOption, sum_by}
use Rattle.ml_ratio.specs.Fraction.{IsSame, value_of}
use Rattle.ml_ratio.specs.declared.feature.Feature.{Feature}
use Rattle.ml_cone.specs.Choice.{Choice, IsLongest}
use Rattle.ml_cone.specs.Label.{IsLabelList}
use Rattle.ml_cone.specs.Shown.{AreShown, IsShown, IsShownUntil}
use Rattle.ml_cone.specs.Slots.{ends, no_slot}
use Rattle.ml_cone.specs.declared.label.Label.{Label}
use Rattle.ml_cone.specs.declared.slot.Slot.{Slot}
use Rattle.ml_cone.specs.declared.view.View.{View}
use Rattle.ml_watch.specs.declared.change.Change.{Change}
use Rattle.ml_geojson.specs.Map.{IsMap}
use Rattle.ml_geojson.specs.Shape.{some_shape_of}
use Rattle.ml_geojson.specs.Text.{collection_text, feature_text}
use Rattle.ml_style.specs.StyleTable.{IsStyle}
use Rattle.ml_style.specs.declared.style.Style.{Style}
use Rattle.ml_label.specs.Labels.{AreLabelsOf}
use Rattle.ml_label.proofs.lemmas.SamePlaces.{same_listed}
use Rattle.ml_ratio.proofs.lemmas.Intervals.{equal_ratio}
use Rattle.ml_view.proofs.lemmas.OneView.{same_view}
use Rattle.ml_repair.specs.Changes.{AreChanges}
use Rattle.ml_repair.specs.Cost.{IsCost}
use Rattle.ml_editor.specs.Editing.{IsEditCost, id_of}
use Rattle.ml_editor.specs.Faults.{Wish, AsksFor, adds}
use Rattle.ml_editor.specs.State.{State, first_state}
use Rattle.ml_editor.specs.declared.edit.Edit.{Edit}
use Rattle.ml_gen.specs.Thing.{Thing, thing_of}
use Rattle.ml_gen.specs.Totals.{AreRead, AreTotals, HasNumbers, totals_text}
use Rattle.ml_gen.specs.Turn.{Costs, IsMade, IsTurn, IsViewOf, Makes, MakesChanges, Run, Shows, Turn, comes, goes, group_in, turns}
use Rattle.ml_gen.specs.declared.counts.Counts.{Counts}
use Rattle.ml_gen.specs.declared.group.Group.{Group}
use Rattle.ml_gen.specs.declared.totals.Totals.{Totals}
use Rattle.ml_http.proofs.lemmas.SameChanges.{SameEnds, changes_moved}
use Rattle.maplabel.specs.Generating.{IsTotalsOf, sample_style}

-- what is known of maps and edits
pub record KnownMaps : Type 0 where
  pub one_style : (bytes : List ℕ) (one other : Style) → IsStyle bytes one → IsStyle bytes other → one ≡ other
  pub one_map : (bytes : List ℕ) (features others : List Feature) → IsMap bytes features → IsMap bytes others → features ≡ others
  pub same_is_one : (one other : Feature) → one.id ≡ other.id → some_shape_of one.geometry ≡ some_shape_of other.geometry → one.props ≡ other.props → one ≡ other
  pub one_list : (style : Style) (features others : List Feature) (labels rest : List Label) →
      ((f : Feature) → (Rattle.std.proofs.Common.Contains features f) ↔ (Rattle.std.proofs.Common.Contains others f)) →
      AreLabelsOf style features labels → AreLabelsOf style others rest → labels ≡ rest
  pub longest : (labels : List Label) (one other : Choice) → IsLongest labels one → IsLongest labels other → (i : ℕ) → i < length labels → IsSame (one i) (other i)
  pub one_changes : (labels : List Label) (slots : List Slot) (new_labels : List Label) (new_slots : List Slot) (changes others : List Change) →
      AreChanges labels slots new_labels new_slots changes → AreChanges labels slots new_labels new_slots others → changes ≡ others
  pub one_cost : (before after : List Label) (id : List ℕ) (cost other : ℕ) → IsLabelList before → IsLabelList after → IsCost before after id cost → IsCost before after id other → cost ≡ other
  pub one_edit : (ask : Wish) (one other : Edit) → AsksFor ask one → AsksFor ask other → one ≡ other

heads : {X : Type 0} (x y : X) (xs ys : List X) → x ∷ xs ≡ y ∷ ys → (x ≡ y) × (xs ≡ ys)
heads x y xs ys e = (cc (e), cc (e))

module _ (known : KnownMaps) where
  -- ---- features and the states that they make

  feature_again : (f g : Feature) → thing_of f ≡ thing_of g → f ≡ g
  feature_again f g same =
      known.same_is_one f g (ap (λ (t : Thing). t.id) same) (ap (λ (t : Thing). t.shape) same) (ap (λ (t : Thing). t.props) same)

  features_again : (fs gs : List Feature) → map thing_of fs ≡ map thing_of gs → fs ≡ gs
  features_again [] [] same = refl
  features_again [] (g ∷ gs) same = cc (same)
  features_again (f ∷ fs) [] same = cc (same)
  features_again (f ∷ fs) (g ∷ gs) same =
      let both = heads (thing_of f) (thing_of g) (map thing_of fs) (map thing_of gs) same in
      ap (λ (x : Feature). x ∷ fs) (feature_again f g both.0) ∙ ap (λ (xs : List Feature). g ∷ xs) (features_again fs gs both.1)

  read_again : (things : List Thing) (fs gs : List Feature) → AreRead things fs → AreRead things gs → fs ≡ gs
  read_again things fs gs x y =
      let made : y.made ≡ x.made = features_again y.made x.made (y.are ∙ sym x.are) in
      let text : y.back.text ≡ x.back.text = y.back.text_is ∙ ap collection_text made ∙ sym x.back.text_is in
      known.one_map x.back.text fs gs x.back.is_map (rw text at y.back.is_map)

  labels_again : (s : State) (labels others : List Label) → AreLabelsOf s.style s.features labels → AreLabelsOf s.style s.features others → labels ≡ others
  labels_again s labels others x y = known.one_list s.style s.features s.features labels others (λ f. (λ h. h, λ h. h)) x y

  -- ---- slots with the longest ends

  same_ends : (labels : List Label) (slots others : List Slot) → IsLongest labels (ends slots) → IsLongest labels (ends others) → SameEnds labels slots others
  same_ends labels slots others x y p within = equal_ratio (get_or slots p no_slot).until (get_or others p no_slot).until (known.longest labels (ends slots) (ends others) x y p within)

  places_again : (labels : List Label) (slots others : List Slot) (view : View) (ps qs : List ℕ) →
      SameEnds labels slots others → AreShown labels (ends slots) view ps → AreShown labels (ends others) view qs → ps ≡ qs
  places_again labels slots others view ps qs same x y =
      same_listed (IsShown labels (ends slots) view) (IsShown labels (ends others) view) ps qs x.ascending y.ascending x.sound y.sound x.whole y.whole
      (λ p shown. (shown.0, λ d. subst (λ e. IsShownUntil (get_or labels p d) view (λ k. e) p) (ap value_of (same p shown.0)) (shown.1 d)))
      (λ p shown. (shown.0, λ d. subst (λ e. IsShownUntil (get_or labels p d) view (λ k. e) p) (sym (ap value_of (same p shown.0))) (shown.1 d)))

  -- ---- what comes of an edit

  changes_again : (s t : State) (m n : ℕ) → MakesChanges s t m → MakesChanges s t n → m ≡ n
  changes_again s t m n x y =
      let before : y.before ≡ x.before = labels_again s y.before x.before y.have_before.labels_are x.have_before.labels_are in
      let after : y.after ≡ x.after = labels_again t y.after x.after y.have_after.labels_are x.have_after.labels_are in
      let longest_before : IsLongest x.before (ends y.slots_before) = rw before at y.have_before.longest in
      let longest_after : IsLongest x.after (ends y.slots_after) = rw after at y.have_after.longest in
      let are : AreChanges x.before y.slots_before x.after y.slots_after y.changes = rw (before, after) at y.are_changes in
      let moved = changes_moved x.before y.slots_before x.slots_before x.after y.slots_after x.slots_after
      (same_ends x.before y.slots_before x.slots_before longest_before x.have_before.longest) (same_ends x.after y.slots_after x.slots_after longest_after x.have_after.longest) y.changes are in
      x.number ∙ ap (λ (cs : List Change). length cs) (known.one_changes x.before x.slots_before x.after x.slots_after x.changes y.changes x.are_changes moved) ∙ sym y.number

  cost_again : (o : Option (List ℕ)) (before after : List Label) (m n : ℕ) → IsLabelList before → IsLabelList after →
      MatchOption o (m ≡ 0) (λ id. IsCost before after id m) → MatchOption o (n ≡ 0) (λ id. IsCost before after id n) → m ≡ n
  cost_again None before after m n first second x y = x ∙ sym y
  cost_again (Some id) before after m n first second x y = known.one_cost before after id m n first second x y

  costs_again : (edit : Edit) (s t : State) (m n : ℕ) → Costs edit s t m → Costs edit s t n → m ≡ n
  costs_again edit s t m n x y =
      let before : y.before ≡ x.before = labels_again s y.before x.before y.labels_before x.labels_before in
      let after : y.after ≡ x.after = labels_again t y.after x.after y.labels_after x.labels_after in
      let cost : IsEditCost edit x.before x.after n = rw (before, after) at y.cost in
      cost_again (id_of edit) x.before x.after m n x.labels_before.ordered x.labels_after.ordered x.cost cost

  view_again : (group : Group) (v u : View) → IsViewOf group v → IsViewOf group u → v ≡ u
  view_again group v u x y =
      let num : v.scale.num ≡ u.scale.num = x.num_is ∙ sym y.num_is in
      let den : u.scale.den ≡ v.scale.den = y.den_is ∙ sym x.den_is in
      let scale : v.scale ≡ u.scale = equal_ratio v.scale u.scale (ap (λ (n : ℕ). n * u.scale.den) num ∙ ap (λ (n : ℕ). u.scale.num * n) den) in
      same_view v u (x.cx_is ∙ sym y.cx_is) (x.cy_is ∙ sym y.cy_is) (x.w_is ∙ sym y.w_is) (x.h_is ∙ sym y.h_is) scale

  shows_again : (t : State) (view : View) (m n : ℕ) → Shows t view m → Shows t view n → m ≡ n
  shows_again t view m n x y =
      let labels : y.labels ≡ x.labels = labels_again t y.labels x.labels y.have.labels_are x.have.labels_are in
      let longest : IsLongest x.labels (ends y.slots) = rw labels at y.have.longest in
      let shown : AreShown x.labels (ends y.slots) view y.places = rw labels at y.shown in
      let same = same_ends x.labels x.slots y.slots x.have.longest longest in
      x.number ∙ ap (λ (ps : List ℕ). length ps) (places_again x.labels x.slots y.slots view x.places y.places same x.shown shown) ∙ sym y.number

  edit_again : (turn : Turn) (one other : Edit) → Makes turn one → Makes turn other → one ≡ other
  edit_again (goes group) one other x y = x ∙ sym y
  edit_again (comes group) one other (f, is, makes) (g, was, made) =
      let same : g ≡ f = feature_again g f (was ∙ sym is) in
      known.one_edit (adds (feature_text f)) one other makes (subst (λ (h : Feature). AsksFor (adds (feature_text h)) other) same made)

  same_counts : (c d : Counts) → c.shown ≡ d.shown → c.changes ≡ d.changes → c.evaluated ≡ d.evaluated → c ≡ d
  same_counts c d shown changes evaluated i = record { shown = shown i; changes = changes i; evaluated = evaluated i }

  made_again : (edit : Edit) (group : Group) (s t u : State) (c d : Counts) → IsMade edit group s c t → IsMade edit group s d u → (c ≡ d) × (t ≡ u)
  made_again edit group s t u c d x y =
      let state : u ≡ t = y.state ∙ sym x.state in
      let view : y.view ≡ x.view = view_again group y.view x.view y.asked x.asked in
      let changes : MakesChanges s t d.changes = rw state at y.changes in
      let costs : Costs edit s t d.evaluated = rw state at y.evaluated in
      let shown : Shows t x.view d.shown = rw (state, view) at y.shown in (
        same_counts c d (shows_again t x.view c.shown d.shown x.shown shown) (changes_again s t c.changes d.changes x.changes changes) (costs_again edit s t c.evaluated d.evaluated x.evaluated costs),
        sym state,
      )

  turn_again : (turn : Turn) (s t u : State) (c d : Counts) → IsTurn turn s c t → IsTurn turn s d u → (c ≡ d) × (t ≡ u)
  turn_again turn s t u c d (edit, makes, x) (other, made, y) =
      let same : other ≡ edit = edit_again turn other edit made makes in
      made_again edit (group_in turn) s t u c d x (rw same at y)

  run_again : (all : List Turn) (s t u : State) (cs ds : List Counts) → Run s all cs t → Run s all ds u → (cs ≡ ds) × (t ≡ u)
  run_again [] s t u [] [] x y = (refl, x ∙ sym y)
  run_again [] s t u (c ∷ cs) ds x y = absurd x
  run_again [] s t u [] (d ∷ ds) x y = absurd y
  run_again (turn ∷ all) s t u [] ds x y = absurd x
  run_again (turn ∷ all) s t u (c ∷ cs) [] x y = absurd y
  run_again (turn ∷ all) s t u (c ∷ cs) (d ∷ ds) (mid, x, more) (between, y, others) =
      let one = turn_again turn s mid between c d x y in
      let rest = run_again all mid t u cs ds more (rw (sym one.1) at others) in
      (ap (λ (k : Counts). k ∷ cs) one.0 ∙ ap (λ (ks : List Counts). d ∷ ks) rest.0, rest.1)

  -- ---- the totals

  same_totals : (one other : Totals) → one.groups ≡ other.groups → one.features ≡ other.features → one.labels ≡ other.labels → one.edits ≡ other.edits
      → one.shown ≡ other.shown → one.changes ≡ other.changes → one.evaluated ≡ other.evaluated → one.rev ≡ other.rev → one ≡ other
  same_totals one other groups features labels edits shown changes evaluated rev i =
      record { groups = groups i; features = features i; labels = labels i; edits = edits i; shown = shown i; changes = changes i; evaluated = evaluated i; rev = rev i }

  totals_again : (n seed : ℕ) (style : Style) (one other : Totals) → AreTotals n seed style one → AreTotals n seed style other → one ≡ other
  totals_again n seed style one other x y =
      let read : y.read ≡ x.read = read_again _ y.read x.read y.are_read x.are_read in
      let again : Run (first_state style x.read) (turns n seed) y.each y.last = rw read at y.run in
      let runs = run_again (turns n seed) (first_state style x.read) x.last y.last x.each y.each x.run again in
      let numbers : HasNumbers x.last other.features other.labels other.rev = rw (sym runs.1) at y.numbers in
      let labels = labels_again x.last x.numbers.all numbers.all x.numbers.all_are numbers.all_are in
      same_totals one other
      (x.groups ∙ sym y.groups)
      (x.numbers.features_are ∙ sym numbers.features_are)
      (x.numbers.labels_are ∙ ap (λ (ls : List Label). length ls) labels ∙ sym numbers.labels_are)
      (x.sums.edits_are ∙ ap (λ (cs : List Counts). length cs) runs.0 ∙ sym y.sums.edits_are)
      (x.sums.shown_are ∙ ap (λ (cs : List Counts). sum_by (λ (k : Counts). k.shown) cs) runs.0 ∙ sym y.sums.shown_are)
      (x.sums.changes_are ∙ ap (λ (cs : List Counts). sum_by (λ (k : Counts). k.changes) cs) runs.0 ∙ sym y.sums.changes_are)
      (x.sums.evaluated_are ∙ ap (λ (cs : List Counts). sum_by (λ (k : Counts). k.evaluated) cs) runs.0 ∙ sym y.sums.evaluated_are)
      (x.numbers.rev_is ∙ sym numbers.rev_is)

  -- the totals of a generated map are one text
  pub one_totals : (groups seed : ℕ) (one other : List ℕ) → IsTotalsOf groups seed one → IsTotalsOf groups seed other → one ≡ other
  one_totals groups seed one other (style, is, (totals, are, text)) (another, was, (others, were, words)) =
      let same : another ≡ style = known.one_style sample_style another style was is in
      text ∙ ap totals_text (totals_again groups seed style totals others are (rw same at were)) ∙ sym words
