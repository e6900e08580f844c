-- Slots whose blockers are told by their places.
use Rattle.std.proofs.Common.{◌≡◌, ℕ, ◌+◌, ◌<◌, List, [], ◌∷◌, ◌++◌, length, take, get_or, inl, inr, refl, sym, ap, subst, ◌∙◌, arith, Option, Some, None}
use Rattle.std.specs.Prelude.{All, IfSome, MatchOption, slice_get, slice_set}
use Rattle.std.proofs.lemmas.Bool.{cases_lt}
use Rattle.std.proofs.lemmas.List.{get_or-set_same, get_or-set_other, length-set, get_or-map, get_or_past, get_or_append_left, length-map, length-append, length-take, take_more}
use Rattle.std.proofs.Math.Seq.{get_or-append_seam, take-length}
use Rattle.std.proofs.lemmas.List.Elements.{All-cons, All-head, All-nil, All-tail}
use Rattle.std.proofs.lemmas.Option.{get_or_from_slice_get, slice_get-get_or}
use Rattle.ml_ratio.specs.Fraction.{value_of}
use Rattle.ml_cone.specs.Choice.{Choice, IsLongest}
use Rattle.ml_cone.specs.Slots.{AreSlots, IsBlockerBy, ends, no_slot}
use Rattle.ml_cone.specs.declared.label.Label.{Label}
use Rattle.ml_cone.specs.declared.slot.Slot.{Slot}
use Rattle.ml_follow.specs.StateText.{begun_text, state_text}
use Rattle.ml_store.specs.Rows.{labels_in, slots_in, numbers_in, number_at, AreDifferent, HaveOwnNumbers, IsLive}
use Rattle.ml_store.specs.declared.row.Row.{Row}
use Rattle.ml_http.specs.StateReply.{ArePlacesOf, IsPlaceOf, IsToldByPlace, IsRowAdded, IsStateText}
use Rattle.ml_editor.specs.State.{State}
use Rattle.ml_label.specs.Labels.{AreLabelsOf}
use Rattle.ml_repair.specs.Settled.{IsSettled}
use Rattle.ml_http.proofs.SameViews.{row_of}

-- the slots of all rows, each with its blocker told by place
pub record ArePlaced (rows : List Row) (slots : List Slot) : Type 0 where
  pub one_slot : length slots ≡ length rows
  pub each : (i : ℕ) → i < length rows → IsToldByPlace rows (get_or (slots_in rows) i no_slot) (get_or slots i no_slot)

module _ (rows : List Row) (own : HaveOwnNumbers rows) (are : AreSlots (number_at rows) (labels_in rows) (slots_in rows)) (slots : List Slot) (placed : ArePlaced rows slots) where
  many : length (labels_in rows) ≡ length rows
  many = length-map rows (λ r. r.label)

  many_slots : length (slots_in rows) ≡ length rows
  many_slots = length-map rows (λ r. r.slot)

  many_numbers : length (numbers_in rows) ≡ length rows
  many_numbers = length-map rows (λ r. r.number)

  same_until : (i : ℕ) → (get_or (slots_in rows) i no_slot).until ≡ (get_or slots i no_slot).until
  same_until i = elim (cases_lt i (length rows)) [
    | inl within ↦ sym (placed.each i within).0
    | inr past ↦ ap (λ s. s.until) (get_or_past (slots_in rows) i no_slot (omega (arith, past, many_slots)) ∙ sym (get_or_past slots i no_slot (omega (arith, past, placed.one_slot))))
  ]

  same_ends : ends (slots_in rows) ≡ ends slots
  same_ends = λ t i. value_of (same_until i t)

  -- a number stands at one place
  one_place : (j p : ℕ) → j < length rows → p < length rows → number_at rows j ≡ number_at rows p → j ≡ p
  one_place j p j_in p_in same = elim (cases_lt j p) [
    | inl up ↦ absurd (own j p 0 up (omega (arith, p_in, many_numbers)) same)
    | inr not_up ↦ elim (cases_lt p j) [
      | inl down ↦ absurd (own p j 0 down (omega (arith, j_in, many_numbers)) (sym same))
      | inr not_down ↦ omega (arith, not_up, not_down)
    ]
  ]

  blocker_by_place : (i : ℕ) (d : Label) (c : Choice) (old new : Option ℕ) → i < length rows → IsBlockerBy (number_at rows) (labels_in rows) c i old →
      MatchOption old (new ≡ None) (λ n. (p : ℕ) × (p < length rows) × (number_at rows p ≡ n) × (new ≡ Some p)) → IsBlockerBy (λ j. j) (labels_in rows) c i new
  blocker_by_place i d c None new within by told = subst (IsBlockerBy (λ j. j) (labels_in rows) c i) (sym told) by
  blocker_by_place i d c (Some n) new within (j, number, blocks, first) (p, p_in, p_number, told) =
      let before : j < i = (blocks d).0 in
      let at : j ≡ p = one_place j p (omega (arith, before, within)) p_in (number ∙ sym p_number) in
      subst (IsBlockerBy (λ k. k) (labels_in rows) c i) (sym told) (j, at, blocks, first)

  some_label : (i : ℕ) → i < length rows → Label
  some_label i within = (first_row rows i within).label
    where
      first_row : (xs : List Row) (k : ℕ) → k < length xs → Row
      first_row [] k lt = absurd (omega (arith, lt))
      first_row (r ∷ xs) k lt = r

  -- with blockers told by place, the slots are still the longest choice of the labels with its blockers
  pub placed_slots : AreSlots (λ j. j) (labels_in rows) slots
  placed_slots = record {
    one_slot = omega (arith, placed.one_slot, many);
    longest = subst (IsLongest (labels_in rows)) same_ends are.longest;
    blockers = λ i within.
        let i_in : i < length rows = omega (arith, within, many) in
        subst (λ c. IsBlockerBy (λ j. j) (labels_in rows) c i (get_or slots i no_slot).blocker) same_ends
        (blocker_by_place i (some_label i i_in) (ends (slots_in rows)) (get_or (slots_in rows) i no_slot).blocker (get_or slots i no_slot).blocker i_in (are.blockers i within) (placed.each i i_in).1);
  }

-- the first i rows were added to the text of a state
pub record AreAdded (rows : List Row) (rev count i : ℕ) (text : List ℕ) : Type 0 where
  pub slots : List Slot
  pub size : length slots ≡ i
  pub each : (k : ℕ) → k < i → IsToldByPlace rows (get_or (slots_in rows) k no_slot) (get_or slots k no_slot)
  pub so_far : text ≡ begun_text rev count (take i (labels_in rows)) slots

-- the text as it begins tells of no row
pub none_added : (rows : List Row) (rev count : ℕ) (text : List ℕ) → text ≡ begun_text rev count [] [] → AreAdded rows rev count 0 text
none_added rows rev count text is = record { slots = []; size = refl; each = λ k lt. absurd (omega (arith, lt)); so_far = is }

module _ (rows : List Row) (own : HaveOwnNumbers rows) (rev count i : ℕ) (old new : List ℕ) (within : i < length rows)
    (added : AreAdded rows rev count i old) (row : IsRowAdded rows (number_at rows i) old new) where
  at_place : get_or rows i row.row ≡ row.row
  at_place = row_of rows row.row i own row.there within row.its_number

  its_label : get_or (labels_in rows) i row.row.label ≡ row.row.label
  its_label = get_or-map (λ r. r.label) rows i row.row row.row.label within ∙ ap (λ r. r.label) at_place

  its_slot : get_or (slots_in rows) i no_slot ≡ row.row.slot
  its_slot = get_or-map (λ r. r.slot) rows i row.row no_slot within ∙ ap (λ r. r.slot) at_place

  abbrev more_slots : List Slot
  more_slots = added.slots ++ row.slot ∷ []

  at_end : get_or more_slots i no_slot ≡ row.slot
  at_end = subst (λ n. get_or more_slots n no_slot ≡ row.slot) added.size (get_or-append_seam added.slots row.slot [] no_slot)

  each_more : (k : ℕ) → k < i + 1 → IsToldByPlace rows (get_or (slots_in rows) k no_slot) (get_or more_slots k no_slot)
  each_more k lt = elim (cases_lt k i) [
    | inl before ↦ subst (IsToldByPlace rows (get_or (slots_in rows) k no_slot))
        (sym (get_or_append_left added.slots (row.slot ∷ []) no_slot k (omega (arith, before, added.size)))) (added.each k before)
    | inr not_before ↦
        let same : i ≡ k = omega (arith, lt, not_before) in
        subst (λ n. IsToldByPlace rows (get_or (slots_in rows) n no_slot) (get_or more_slots n no_slot)) same
        (subst (IsToldByPlace rows (get_or (slots_in rows) i no_slot)) (sym at_end) (subst (λ s. IsToldByPlace rows s row.slot) (sym its_slot) row.placed))
  ]

  -- the text that told the rows before i tells the row at i too, once this was added
  pub one_added : AreAdded rows rev count (i + 1) new
  one_added =
      let many_labels : length (labels_in rows) ≡ length rows = length-map rows (λ r. r.label) in
      let more : take (i + 1) (labels_in rows) ≡ take i (labels_in rows) ++ row.row.label ∷ [] =
      take_more (labels_in rows) i row.row.label (omega (arith, within, many_labels)) ∙ ap (λ l. take i (labels_in rows) ++ l ∷ []) its_label in
      record {
        slots = more_slots;
        size = length-append added.slots (row.slot ∷ []) ∙ ap (λ n. n + 1) added.size;
        each = each_more;
        so_far = row.added rev count (take i (labels_in rows)) added.slots (added.size ∙ sym (length_taken (labels_in rows) i (omega (arith, within, many_labels)))) added.so_far
            ∙ ap (λ ls. begun_text rev count ls more_slots) (sym more);
      }
    where
      length_taken : (xs : List Label) (n : ℕ) → n < length xs → length (take n xs) ≡ n
      length_taken xs n lt = omega (arith, length-take n xs)

-- the place that is told of a blocker
place_told : (rows : List Row) (places : List ℕ) (old new : Option ℕ) → ArePlacesOf (numbers_in rows) places → IfSome old (IsLive rows) → IsPlaceOf places old new →
    MatchOption old (new ≡ None) (λ n. (p : ℕ) × (p < length rows) × (number_at rows p ≡ n) × (new ≡ Some p))
place_told rows places None new are live told = told
place_told rows places (Some n) new are (r, there, number) told =
    let p : ℕ = there.0 in
    let many : length (numbers_in rows) ≡ length rows = length-map rows (λ x. x.number) in
    let at_p : number_at rows p ≡ n = get_or-map (λ x. x.number) rows p r 0 there.1 ∙ ap (λ x. x.number) there.2 ∙ number in
    (p, there.1, at_p, told ∙ ap (slice_get places) (sym at_p) ∙ are p (omega (arith, there.1, many)))

-- the slot with its blocker told by place
pub placed_by : (rows : List Row) (places : List ℕ) (row given : Slot) (blocker : Option ℕ) → ArePlacesOf (numbers_in rows) places →
    given ≡ row → IfSome given.blocker (IsLive rows) → IsPlaceOf places given.blocker blocker →
    IsToldByPlace rows row (record { until = given.until; blocker = blocker })
placed_by rows places row given blocker are same live told =
    let told_row = place_told rows places given.blocker blocker are live told in
    (ap (λ s. s.until) same, subst (λ (s : Slot). MatchOption s.blocker (blocker ≡ None) (λ n. (p : ℕ) × (p < length rows) × (number_at rows p ≡ n) × (blocker ≡ Some p))) same told_row)

-- one more number has its place
pub set_place : (numbers places : List ℕ) (i : ℕ) → i < length numbers → All (λ n. n < 32768) numbers → AreDifferent numbers → length places ≡ 32768 →
    ((k : ℕ) → k < i → slice_get places (get_or numbers k 0) ≡ Some k) → (k : ℕ) → k < i + 1 → slice_get (slice_set places (get_or numbers i 0) i) (get_or numbers k 0) ≡ Some k
set_place numbers places i within low own size so_far k lt = elim (cases_lt k i) [
  | inl before ↦
      let k_in : k < length numbers = omega (arith, before, within) in
      let m : ℕ = get_or numbers k 0 in
      let n : ℕ = get_or numbers i 0 in
      let small : m < 32768 = low k 0 k_in in
      let more : length (slice_set places n i) ≡ length places = length-set places n i in
      let stays : get_or (slice_set places n i) m 0 ≡ get_or places m 0 = get_or-set_other places n m i 0 (own k i 0 before within) in
      slice_get-get_or (slice_set places n i) m 0 (omega (arith, small, size, more)) ∙ ap Some (stays ∙ get_or_from_slice_get places m k 0 (so_far k before))
  | inr not_before ↦
      let same : k ≡ i = omega (arith, lt, not_before) in
      let n : ℕ = get_or numbers i 0 in
      let small : n < 32768 = low i 0 within in
      let more : length (slice_set places n i) ≡ length places = length-set places n i in
      ap (λ x. slice_get (slice_set places n i) (get_or numbers x 0)) same
      ∙ slice_get-get_or (slice_set places n i) n 0 (omega (arith, small, size, more))
      ∙ ap Some (get_or-set_same places n i 0 (omega (arith, small, size)) ∙ sym same)
]

low_list : (rows : List Row) → All (λ r. r.number < 32768) rows → All (λ n. n < 32768) (numbers_in rows)
low_list [] low = All-nil (λ n. n < 32768)
low_list (r ∷ rows) low = All-cons (λ n. n < 32768) r.number (numbers_in rows) (All-head (λ x. x.number < 32768) r rows low) (low_list rows (All-tail (λ x. x.number < 32768) r rows low))

-- all numbers in the list of the rows' numbers are below 32,768 if those of the rows are
pub low_numbers : (rows : List Row) (numbers : List ℕ) → numbers ≡ numbers_in rows → All (λ r. r.number < 32768) rows → All (λ n. n < 32768) numbers
low_numbers rows numbers are low = subst (All (λ n. n < 32768)) (sym are) (low_list rows low)

-- the rows added, one more
pub row_added : (rows : List Row) (own : HaveOwnNumbers rows) (rev i : ℕ) (numbers : List ℕ) (old new : List ℕ) → numbers ≡ numbers_in rows →
    i < length numbers → AreAdded rows rev (length numbers) i old → IsRowAdded rows (get_or numbers i 0) old new → AreAdded rows rev (length numbers) (i + 1) new
row_added rows own rev i numbers old new are within added row =
    let many : length numbers ≡ length rows = ap length are ∙ length-map rows (λ x. x.number) in
    one_added rows own rev (length numbers) i old new (omega (arith, within, many)) added (subst (λ n. IsRowAdded rows n old new) (ap (λ xs. get_or xs i 0) are) row)

-- all rows were added
pub all_added : (s : State) (rows : List Row) → AreLabelsOf s.style s.features (labels_in rows) → IsSettled rows → (rev : ℕ) → rev ≡ s.rev →
    (numbers : List ℕ) → numbers ≡ numbers_in rows → (n : ℕ) → n ≡ length numbers → (before text : List ℕ) → AreAdded rows rev (length numbers) n before →
    ((r : ℕ) (labels : List Label) (slots : List Slot) → before ≡ begun_text r (length labels) labels slots → text ≡ state_text r labels slots) → IsStateText s text
all_added s rows of settled rev rev_is numbers are n at_end before text added whole =
    let many : length numbers ≡ length rows = ap length are ∙ length-map rows (λ x. x.number) in
    let many_labels : length (labels_in rows) ≡ length rows = length-map rows (λ x. x.label) in
    let all : take n (labels_in rows) ≡ labels_in rows = subst (λ k. take k (labels_in rows) ≡ labels_in rows) (many_labels ∙ sym many ∙ sym at_end) (take-length (labels_in rows)) in
    let placed : ArePlaced rows added.slots = record {
      one_slot = added.size ∙ at_end ∙ many;
      each = λ i within. added.each i (omega (arith, within, at_end, many));
    } in
    let begun : before ≡ begun_text rev (length (labels_in rows)) (labels_in rows) added.slots =
    added.so_far ∙ ap (λ ls. begun_text rev (length numbers) ls added.slots) all ∙ ap (λ k. begun_text rev k (labels_in rows) added.slots) (many ∙ sym many_labels) in (
      labels_in rows,
      of,
      (added.slots, placed_slots rows settled.own_numbers settled.slots added.slots placed, whole rev (labels_in rows) added.slots begun ∙ ap (λ r. state_text r (labels_in rows) added.slots) rev_is),
    )
