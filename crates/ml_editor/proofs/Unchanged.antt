-- Labels that stay: what an edit without a label makes of them.
use Rattle.std.proofs.Common.{◌≡◌, ℕ, zero, suc, ◌<◌, ◌≤◌, List, [], ◌∷◌, length, get_or, Contains, Option, Some, None, inl, inr, refl, sym, ap, ◌∙◌, arith}
use Rattle.std.specs.Ordering.{nat_cmp}
use Rattle.std.specs.Cmp.Lexicographic.{slice_cmp}
use Rattle.std.specs.List.Sorted.{IsStrictlySortedBy}
use Rattle.std.proofs.lemmas.Bool.{cases_lt}
use Rattle.ml_cone.specs.Label.{IsLabelList}
use Rattle.ml_cone.specs.Places.{IsNoId}
use Rattle.ml_cone.specs.Slots.{no_slot}
use Rattle.ml_cone.specs.declared.label.Label.{Label}
use Rattle.ml_cone.specs.declared.slot.Slot.{Slot}
use Rattle.ml_store.specs.Rows.{HasId, IsNumberOf, labels_in}
use Rattle.ml_store.specs.declared.row.Row.{Row}
use Rattle.ml_repair.specs.Changes.{Ranged, IsStanding, IsAbsent, IsStateOf, AreChanges}
use Rattle.ml_repair.specs.Cost.{IsCost}
use Rattle.ml_repair.specs.Edit.{IsEdited}
use Rattle.ml_editor.proofs.Same.{here, later}
use Rattle.ml_editor.proofs.After.{no_label}

-- the label of a row is among the labels of the rows
label_in : (rows : List Row) (r : Row) (k : ℕ) → k < length rows → get_or rows k r ≡ r → Contains (labels_in rows) r.label
label_in [] r k lt is = absurd (omega (arith, lt))
label_in (x ∷ rows) r zero lt is = (0, omega arith, ap (λ (y : Row). y.label) is)
label_in (x ∷ rows) r (suc k) lt is = later x.label r.label (labels_in rows) (label_in rows r k (omega (arith, lt)) is)

-- a live label's id is one that a label has
pub has_id : (rows : List Row) (id : List ℕ) (number : ℕ) → IsNumberOf rows id number → HasId (labels_in rows) id
has_id rows id number live = (live.0.label, label_in rows live.0 live.1.0 live.1.1 live.1.2, live.2)

-- where no label has the id and none comes, the edit leaves the labels as they are
pub not_edited : (id : List ℕ) (labels : List Label) → ¬ (HasId labels id) → IsEdited id None labels labels
not_edited id labels absent l = (
  (λ there. inl (there, (λ same. absent (l, there, same)))),
  (λ h. elim h [
    | inl old ↦ old.0
    | inr none ↦ absurd (no_label l none)
  ]),
)

-- the label at a place
label_there : (labels : List Label) (j : ℕ) → j < length labels → (l : Label) × Contains labels l × (get_or labels j l ≡ l)
label_there [] j lt = absurd (omega (arith, lt))
label_there (x ∷ labels) zero lt = (x, here x labels, refl)
label_there (x ∷ labels) (suc j) lt =
    let rest = label_there labels j (omega (arith, lt)) in
    (rest.0, later x rest.0 labels rest.1, rest.2)

no_place : (id : List ℕ) (labels : List Label) → ¬ (HasId labels id) → IsNoId labels id
no_place id labels absent j place =
    let l = label_there labels j place.0 in
    absent (l.0, l.1, sym (ap (λ (x : Label). x.order.id) l.2) ∙ place.1 l.0)

-- and no label has to be evaluated for it
pub no_cost : (id : List ℕ) (labels : List Label) → ¬ (HasId labels id) → IsCost labels labels id 0
no_cost id labels absent = record {
  gone = 0;
  come = 0;
  touched_gone = inr (no_place id labels absent, refl);
  touched_come = inr (no_place id labels absent, refl);
  both = refl;
}

module _ (labels : List Label) (slots : List Slot) (ordered : IsLabelList labels) where
  not_before : (id : List ℕ) (a b : Ranged) → (x : IsStanding labels slots id a) → (y : IsStanding labels slots id b) → x.place < y.place → ⊥
  not_before id a b x y below =
      (ordered x.place y.place a.label below y.is_place).1
      (ap (λ (l : Label). l.order.id) (x.its_label a.label) ∙ x.its_id ∙ sym y.its_id ∙ sym (ap (λ (l : Label). l.order.id) (y.its_label a.label)))

  same_place : (id : List ℕ) (a b : Ranged) → (x : IsStanding labels slots id a) → (y : IsStanding labels slots id b) → x.place ≡ y.place
  same_place id a b x y = elim (cases_lt x.place y.place) [
    | inl below ↦ absurd (not_before id a b x y below)
    | inr above ↦ elim (cases_lt y.place x.place) [
      | inl below ↦ absurd (not_before id b a y x below)
      | inr other ↦ both x.place y.place above other
    ]
  ]
    where
      both : (n m : ℕ) → m ≤ n → n ≤ m → n ≡ m
      both n m p q = omega (arith, p, q)

  same_standing : (id : List ℕ) (a b : Ranged) → IsStanding labels slots id a → IsStanding labels slots id b → a ≡ b
  same_standing id a b x y =
      let place = same_place id a b x y in
      let label : a.label ≡ b.label = sym (x.its_label a.label) ∙ ap (λ k. get_or labels k a.label) place ∙ y.its_label a.label in
      let span : a.span ≡ b.span = x.its_span ∙ (λ i. record { min = (label i).min; until = (get_or slots (place i) no_slot).until }) ∙ sym y.its_span in
      (λ i. record { label = label i; span = span i })

  absent_or_there : (id : List ℕ) (a : Ranged) → IsAbsent labels id → IsStanding labels slots id a → ⊥
  absent_or_there id a absent x = absent x.place a.label x.is_place (ap (λ (l : Label). l.order.id) (x.its_label a.label) ∙ x.its_id)

  -- among labels in order an id has one label with one active range, or it has none
  pub same_state : (id : List ℕ) (was is : Option Ranged) → IsStateOf labels slots id was → IsStateOf labels slots id is → was ≡ is
  same_state id None None x y = refl
  same_state id None (Some b) x y = absurd (absent_or_there id b x y)
  same_state id (Some a) None x y = absurd (absent_or_there id a y x)
  same_state id (Some a) (Some b) x y = ap Some (same_standing id a b x y)

  none_sorted : IsStrictlySortedBy (slice_cmp nat_cmp) []
  unfolding IsStrictlySortedBy
  none_sorted = tt

  -- labels with the slots that they had have no changes
  pub no_changes : AreChanges labels slots labels slots []
  no_changes = record {
    ascending = none_sorted;
    sound = (λ k d lt. absurd (omega (arith, lt)));
    whole = (λ change h. absurd (h.differ (same_state change.id h.was h.is h.state_before h.state_after)));
  }
