-- What stays of labels where an edit changes others.
use Rattle.std.proofs.Common.{◌≡◌, ◌≢◌, ℕ, zero, suc, ◌<◌, List, [], ◌∷◌, length, get_or, Contains, arith, ◌⊎◌, inl, inr, refl, sym, ap, ◌∙◌, subst, Bool, true, false}
use Rattle.std.specs.Prelude.{Option, Some, None, nat_eq}
use Rattle.std.specs.Cmp.Lexicographic.{pointwise}
use Rattle.std.specs.Option.{option_map}
use Rattle.ml_ratio.specs.contracts.ratio.Ratio as a_ratio
use Rattle.ml_cone.specs.contracts.label.Label as a_label
use Rattle.ml_watch.specs.declared.change.Change.{Change}
use Rattle.ml_store.specs.Rows.{labels_in, slots_in}
use Rattle.ml_store.specs.declared.row.Row.{Row}
use Rattle.ml_repair.specs.Changes.{Ranged, IsStateOf, IsStanding, IsChange, AreChanges, IsChanged, IsTold, StandsAmong}
use Rattle.ml_repair.specs.Settled.{IsSettled}
use Rattle.ml_repair.proofs.Changing.{ranged, standing, standing_row, no_row, is_absent}
use Rattle.ml_repair.proofs.Deciding.{same_or_not}
use Rattle.ml_repair.proofs.OneRow.{one_id}
use Rattle.std.proofs.lemmas.Slice.Eq.{bytes_eq-Decides}

-- a row with the id, or none
abbrev Found : List Row → List ℕ → Type 0
Found rows id = ((row : Row) × Contains rows row × (row.label.order.id ≡ id)) ⊎ ((row : Row) → Contains rows row → row.label.order.id ≢ id)

-- the state of an id that was found
abbrev found_state : (rows : List Row) (id : List ℕ) → Found rows id → Option Ranged
found_state rows id (inl there) = Some (ranged there.0)
found_state rows id (inr none) = None

not_both : (b : Bool) → b ≡ false → b ≡ true → ⊥
not_both b is_no is_yes = cc

behind : (x y : Row) (xs : List Row) → Contains xs y → Contains (x ∷ xs) y
behind x y xs there = (suc there.0, omega (arith, there.1), there.2)

at_place : (x y : Row) (xs : List Row) (k : ℕ) → k < length (x ∷ xs) → get_or (x ∷ xs) k y ≡ y → (x ≡ y) ⊎ Contains xs y
at_place x y xs zero lt is = inl is
at_place x y xs (suc k) lt is = inr (k, omega (arith, lt), is)

-- a row that has the id or not, and others of which some has it or none
first_or_later : (x : Row) (rows : List Row) (id : List ℕ) (test : Bool) → pointwise nat_eq x.label.order.id id ≡ test → Found rows id → Found (x ∷ rows) id
first_or_later x rows id true is found = inl (x, (0, omega arith, refl), (bytes_eq-Decides x.label.order.id id).0 is)
first_or_later x rows id false is (inl there) = inl (there.0, behind x there.0 rows there.1, there.2)
first_or_later x rows id false is (inr none) = inr (λ row there same. elim (at_place x row rows there.0 there.1 there.2) [
  | inl first ↦ not_both (pointwise nat_eq x.label.order.id id) is ((bytes_eq-Decides x.label.order.id id).1 (ap (λ (r : Row). r.label.order.id) first ∙ same))
  | inr others ↦ none row others same
])

find : (rows : List Row) (id : List ℕ) → Found rows id
find [] id = inr (λ row there. let lt = there.1 in absurd (omega (arith, lt)))
find (x ∷ rows) id = first_or_later x rows id (pointwise nat_eq x.label.order.id id) refl (find rows id)

state_found : (rows : List Row) (id : List ℕ) (found : Found rows id) → IsStateOf (labels_in rows) (slots_in rows) id (found_state rows id found)
state_found rows id (inl there) = subst (λ (i : List ℕ). IsStanding (labels_in rows) (slots_in rows) i (ranged there.0)) there.2 (standing rows there.0 there.1)
state_found rows id (inr none) = is_absent rows id none

abbrev change_between : List ℕ → Option Ranged → Option Ranged → Change
change_between id was is = record { id = id; before = option_map (λ one. one.span) was; after = option_map (λ one. one.span) is }

module _ (before after : List Row) (changes : List Change) (are : AreChanges (labels_in before) (slots_in before) (labels_in after) (slots_in after) changes)
    (id : List ℕ) (same : ¬ (IsChanged changes id)) where
  -- the two states of an id that no change has are not different
  not_different : (was is : Option Ranged) → IsStateOf (labels_in before) (slots_in before) id was → IsStateOf (labels_in after) (slots_in after) id is → was ≢ is → ⊥
  not_different was is state_before state_after differ =
      same (
        change_between id was is,
        are.whole (change_between id was is) (record {
          was = was;
          is = is;
          state_before = state_before;
          state_after = state_after;
          differ = differ;
          span_before = refl;
          span_after = refl;
        }),
        refl,
      )

some_is : (a b : Ranged) → Some a ≡ Some b → a ≡ b
some_is a b e = cc

none_is : (a : Ranged) → Some a ≡ None → ⊥
none_is a e = cc

is_none : (a : Ranged) → None ≡ Some a → ⊥
is_none a e = cc

-- rows of which the labels and the ends are not different have the same ones
alike : (r q : Row) → ((Some (ranged r) ≢ Some (ranged q)) → ⊥) → (q.label ≡ r.label) × (q.slot.until ≡ r.slot.until)
alike r q never = elim (same_or_not a_label.the_row.coded q.label r.label) [
  | inr other ↦ absurd (never (λ e. other (sym (ap (λ (x : Ranged). x.label) (some_is (ranged r) (ranged q) e)))))
  | inl label ↦ elim (same_or_not a_ratio.the_row.coded q.slot.until r.slot.until) [
    | inr other ↦ absurd (never (λ e. other (sym (ap (λ (x : Ranged). x.span.until) (some_is (ranged r) (ranged q) e)))))
    | inl until ↦ (label, until)
  ]
]

-- a row before the edit, if its id has no change, stands after it too, with the same label and end
pub stays_after : (before after : List Row) (changes : List Change) (row : Row) → AreChanges (labels_in before) (slots_in before)
    (labels_in after) (slots_in after) changes → Contains before row → ¬ (IsChanged changes row.label.order.id) → StandsAmong after row
stays_after before after changes row are there same = elim (find after row.label.order.id) [
  | inl other ↦ (
      let never = not_different before after changes are row.label.order.id same (Some (ranged row))
      (Some (ranged other.0)) (standing before row there) (state_found after row.label.order.id (inl other)) in
      let parts = alike row other.0 never in
      (other.0, other.1, parts.0, parts.1))
  | inr none ↦ absurd (not_different before after changes are row.label.order.id same (Some (ranged row)) None
      (standing before row there) (is_absent after row.label.order.id none) (none_is (ranged row)))
]

-- a row after the edit, if its id has no change, stood before it too, with the same label and end
pub stays_before : (before after : List Row) (changes : List Change) (row : Row) → AreChanges (labels_in before) (slots_in before)
    (labels_in after) (slots_in after) changes → Contains after row → ¬ (IsChanged changes row.label.order.id) → StandsAmong before row
stays_before before after changes row are there same = elim (find before row.label.order.id) [
  | inl other ↦ (
      let never = not_different before after changes are row.label.order.id same (Some (ranged other.0))
      (Some (ranged row)) (state_found before row.label.order.id (inl other)) (standing after row there) in
      let parts = alike other.0 row never in
      (other.0, other.1, sym parts.0, sym parts.1))
  | inr none ↦ absurd (not_different before after changes are row.label.order.id same None (Some (ranged row))
      (is_absent before row.label.order.id none) (standing after row there) (is_none (ranged row)))
]

told_by : (rows : List Row) (id : List ℕ) (state : Option Ranged) → IsStateOf (labels_in rows) (slots_in rows) id state → IsTold rows id (option_map (λ one. one.span) state)
told_by rows id None state = no_row rows id state
told_by rows id (Some one) state =
    let s = standing_row rows id one state in
    (s.0, s.1, s.2, ap (λ (x : Ranged). x.span) s.3)

-- a change tells of its id how it stood among the rows before the edit
pub tells_before : (before after : List Row) (change : Change) → IsChange (labels_in before) (slots_in before) (labels_in after) (slots_in after) change → IsTold before change.id change.before
tells_before before after change is = subst (IsTold before change.id) (sym is.span_before) (told_by before change.id is.was is.state_before)

-- a change tells of its id how it stands among the rows after the edit
pub tells_after : (before after : List Row) (change : Change) → IsChange (labels_in before) (slots_in before) (labels_in after) (slots_in after) change → IsTold after change.id change.after
tells_after before after change is = subst (IsTold after change.id) (sym is.span_after) (told_by after change.id is.is is.state_after)

-- two settled rows with one id are one row
pub one_an_id : (rows : List Row) (one other : Row) → IsSettled rows → Contains rows one → Contains rows other → one.label.order.id ≡ other.label.order.id → one ≡ other
one_an_id rows one other settled first second same = one_id rows one other first second settled.in_order same
