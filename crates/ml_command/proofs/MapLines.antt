-- From the views of a map to the lines of them: labels told by their places.
use Rattle.std.proofs.Common.{◌≡◌, ℕ, zero, suc, ◌<◌, List, [], ◌∷◌, ◌++◌, length, map, get_or, Contains, All, inl, inr, refl, sym, ap, subst, ◌∙◌, arith, Option, Some, None, codes}
use Rattle.std.specs.List.{cons_option, filter_map}
use Rattle.std.proofs.lemmas.Bool.{cases_lt}
use Rattle.std.proofs.lemmas.List.{get_or-map, get_or_default, get_or_past, length-map}
use Rattle.std.proofs.lemmas.List.Elements.{All-head, All-tail}
use Rattle.std.proofs.lemmas.Option.{slice_get_read}
use Rattle.ml_ratio.specs.Fraction.{value_of}
use Rattle.ml_ratio.specs.declared.feature.Feature.{Feature}
use Rattle.ml_cone.specs.Choice.{Choice, IsLongest}
use Rattle.ml_cone.specs.Shown.{AreShown}
use Rattle.ml_cone.specs.Slots.{AreSlots, IsBlockerBy, ends, no_slot}
use Rattle.ml_cone.specs.declared.label.Label.{Label}
use Rattle.ml_cone.specs.declared.slot.Slot.{Slot}
use Rattle.ml_cone.specs.declared.view.View.{View}
use Rattle.ml_label.specs.Labels.{AreLabelsOf}
use Rattle.ml_style.specs.declared.style.Style.{Style}
use Rattle.ml_store.specs.Rows.{labels_in, slots_in, numbers_in, number_at, HaveOwnNumbers}
use Rattle.ml_store.specs.declared.row.Row.{Row}
use Rattle.ml_editor.specs.State.{State, first_state}
use Rattle.ml_answer.specs.MapView.{IsViewText, json_body, shown_of}
use Rattle.ml_answer.specs.View.{view_text}
use Rattle.ml_command.specs.Answers.{IsMapView}
use Rattle.ml_command.specs.ViewLine.{shown_at}

-- a list of slots, of which each is what may be had at its place
slots_for : (P : ℕ → Slot → Type 0) (n : ℕ) → ((i : ℕ) → i < n → (s : Slot) × P i s) → (slots : List Slot) × (length slots ≡ n) × ((i : ℕ) → i < n → P i (get_or slots i no_slot))
slots_for P zero each = ([], refl, λ i lt. absurd (omega (arith, lt)))
slots_for P (suc n) each =
    let first = each 0 (omega arith) in
    let rest = slots_for (λ i s. P (suc i) s) n (λ i lt. each (suc i) (omega (arith, lt))) in
    (first.0 ∷ rest.0, ap suc rest.1, at first.0 first.1 rest.0 rest.2)
  where
    at : (s : Slot) → P 0 s → (slots : List Slot) → ((i : ℕ) → i < n → P (suc i) (get_or slots i no_slot)) → (i : ℕ) → i < suc n → P i (get_or (s ∷ slots) i no_slot)
    at s here slots there zero lt = here
    at s here slots there (suc i) lt = there i (omega (arith, lt))

-- a blocker by its place
by_place : (number : ℕ → ℕ) (labels : List Label) (c : Choice) (i : ℕ) (blocker : Option ℕ) → IsBlockerBy number labels c i blocker → (placed : Option ℕ) × IsBlockerBy (λ j. j) labels c i placed
by_place number labels c i None is = (None, is)
by_place number labels c i (Some n) is = (Some is.0, (is.0, refl, is.2, is.3))

-- the slots of rows, with their blockers by place
pub record ArePlacedSlots (rows : List Row) (slots : List Slot) : Type 0 where
  pub best : AreSlots (λ j. j) (labels_in rows) slots
  pub same_ends : ends (slots_in rows) ≡ ends slots
  pub same_untils : (i : ℕ) → (get_or (slots_in rows) i no_slot).until ≡ (get_or slots i no_slot).until

-- the slot ends at the same scale, and its blocker is that of the label at i, by place
abbrev IsPlacedAt : List Row → ℕ → Slot → Type 0
IsPlacedAt rows i s = (s.until ≡ (get_or (slots_in rows) i no_slot).until) × IsBlockerBy (λ j. j) (labels_in rows) (ends (slots_in rows)) i s.blocker

module _ (rows : List Row) (are : AreSlots (number_at rows) (labels_in rows) (slots_in rows)) where
  many : length (slots_in rows) ≡ length (labels_in rows)
  many = are.one_slot

  each : (i : ℕ) → i < length (labels_in rows) → (s : Slot) × IsPlacedAt rows i s
  each i within =
      let own = get_or (slots_in rows) i no_slot in
      let placed = by_place (number_at rows) (labels_in rows) (ends (slots_in rows)) i own.blocker (are.blockers i within) in
      (record { until = own.until; blocker = placed.0 }, (refl, placed.1))

  untils : (slots : List Slot) → length slots ≡ length (labels_in rows) → ((i : ℕ) → i < length (labels_in rows) → IsPlacedAt rows i (get_or slots i no_slot)) →
      (i : ℕ) → (get_or (slots_in rows) i no_slot).until ≡ (get_or slots i no_slot).until
  untils slots size placed i = elim (cases_lt i (length (labels_in rows))) [
    | inl within ↦ sym (placed i within).0
    | inr past ↦ ap (λ s. s.until) (get_or_past (slots_in rows) i no_slot (omega (arith, past, many)) ∙ sym (get_or_past slots i no_slot (omega (arith, past, size))))
  ]

  -- there are slots with the same ends whose blockers are told by place
  pub slots_by_place : (slots : List Slot) × ArePlacedSlots rows slots
  slots_by_place =
      let made = slots_for (IsPlacedAt rows) (length (labels_in rows)) each in
      let same : (i : ℕ) → (get_or (slots_in rows) i no_slot).until ≡ (get_or made.0 i no_slot).until = untils made.0 made.1 made.2 in
      let one : ends (slots_in rows) ≡ ends made.0 = (λ t i. value_of (same i t)) in (
        made.0,
        record {
          best = record {
            one_slot = made.1;
            longest = subst (IsLongest (labels_in rows)) one are.longest;
            blockers = λ i within. subst (λ c. IsBlockerBy (λ j. j) (labels_in rows) c i (get_or made.0 i no_slot).blocker) one (made.2 i within).1;
          };
          same_ends = one;
          same_untils = same;
        },
      )

-- that no two live labels have one number
abbrev pub OneRowANumber : Type 0
OneRowANumber = (rows : List Row) (one other : Row) → HaveOwnNumbers rows → Contains rows one → Contains rows other → one.number ≡ other.number → one ≡ other

module _ (one_row : OneRowANumber) (rows : List Row) (own : HaveOwnNumbers rows) (slots : List Slot)
    (untils : (i : ℕ) → (get_or (slots_in rows) i no_slot).until ≡ (get_or slots i no_slot).until) where
  many_labels : length (labels_in rows) ≡ length rows
  many_labels = length-map rows (λ r. r.label)

  -- what stands at the place of a row
  shown_there : (row : Row) (p : ℕ) → Contains rows row → p < length (labels_in rows) → row.number ≡ number_at rows p → shown_at (labels_in rows) slots p ≡ Some (shown_of row)
  shown_there row p there within number =
      let in_rows : p < length rows = omega (arith, within, many_labels) in
      let s : Row = get_or rows p row in
      let in_s : Contains rows s = (p, in_rows, get_or_default rows p s row in_rows) in
      let its : number_at rows p ≡ s.number = get_or-map (λ r. r.number) rows p row 0 in_rows in
      let at : s ≡ row = one_row rows s row own in_s there (sym its ∙ sym number) in
      let label : row.label ≡ get_or (labels_in rows) p row.label = sym (get_or-map (λ r. r.label) rows p row row.label in_rows ∙ ap (λ r. r.label) at) in
      let slot : get_or (slots_in rows) p no_slot ≡ row.slot = get_or-map (λ r. r.slot) rows p row no_slot in_rows ∙ ap (λ r. r.slot) at in
      let until : (get_or slots p no_slot).until ≡ row.slot.until = sym (untils p) ∙ ap (λ s. s.until) slot in
      rw (slice_get_read (labels_in rows) (length (labels_in rows)) p row.label refl within label, until) refl

  heads : (x y : ℕ) (xs ys : List ℕ) → x ∷ xs ≡ y ∷ ys → (x ≡ y) × (xs ≡ ys)
  heads x y xs ys e = (cc, cc)

  -- the labels at the places of shown rows
  pub shown_rows : (places : List ℕ) (shown : List Row) → All (λ p. p < length (labels_in rows)) places → All (Contains rows) shown →
      numbers_in shown ≡ map (number_at rows) places → filter_map (shown_at (labels_in rows) slots) places ≡ map shown_of shown
  shown_rows [] [] within among are = refl
  shown_rows [] (r ∷ shown) within among are = cc
  shown_rows (p ∷ places) [] within among are = cc
  shown_rows (p ∷ places) (r ∷ shown) within among are =
      let both = heads r.number (number_at rows p) (numbers_in shown) (map (number_at rows) places) are in
      let first = shown_there r p (All-head (Contains rows) r shown among) (All-head (λ q. q < length (labels_in rows)) p places within) both.0 in
      let rest = shown_rows places shown (All-tail (λ q. q < length (labels_in rows)) p places within) (All-tail (Contains rows) r shown among) both.1 in
      ap (λ o. cons_option o (filter_map (shown_at (labels_in rows) slots) places)) first ∙ ap (λ ss. shown_of r ∷ ss) rest

-- the text of a view and the end of a line are the line of the view
pub map_lined : OneRowANumber → (classes : Style) (features : List Feature) (s : State) (view : View) (text line : List ℕ) →
    s ≡ first_state classes features → IsViewText json_body s view text → line ≡ text ++ codes "\n" → IsMapView classes features view line
map_lined one_row classes features s view text line is (rows, its, (shown, are, body)) end =
    let placed = slots_by_place rows its.settled.slots in
    let places = are.numbers.places in
    let sound = are.numbers.shown.sound in
    let within : All (λ p. p < length (labels_in rows)) places = (λ k d lt. subst (λ p. p < length (labels_in rows)) (get_or_default places k 0 d lt) (sound k lt).0) in
    let same = shown_rows one_row rows its.settled.own_numbers placed.0 placed.1.same_untils places shown within are.among are.numbers.numbers_are in (
      labels_in rows,
      subst (λ (t : State). AreLabelsOf t.style t.features (labels_in rows)) is its.labels,
      record {
        slots = placed.0;
        places = places;
        best = placed.1.best;
        shown = subst (λ c. AreShown (labels_in rows) c view places) placed.1.same_ends are.numbers.shown;
        line = end ∙ ap (λ t. t ++ codes "\n") (body ∙ ap (view_text view.scale) (sym same));
      },
    )
