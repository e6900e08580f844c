-- A label that nothing hits keeps its slot.
use Rattle.std.proofs.Common.{◌≡◌, ◌≢◌, ℕ, ◌*◌, ◌<◌, ◌⊎◌, inl, inr, arith, refl, List, length, get_or, Bool, true, false}
use Rattle.std.specs.Prelude.{◌==◌}
use Rattle.std.proofs.lemmas.Bool.{cases_eq}
use Rattle.std.proofs.lemmas.List.{get_or_default}
use Rattle.ml_ratio.specs.Fraction.{Fraction, value_of, IsAtMost, IsSame}
use Rattle.ml_cone.specs.Choice.{Choice, IsEnd, Allows}
use Rattle.ml_cone.specs.Rivals.{AreRivals}
use Rattle.ml_cone.specs.Slots.{IsOwnSlot, row, ends, no_slot}
use Rattle.ml_cone.specs.declared.label.Label.{Label}
use Rattle.ml_cone.specs.declared.slot.Slot.{Slot}
use Rattle.ml_conflict.specs.Carried.{AreSameRival}
use Rattle.ml_repair.specs.Touched.{IsRivalBefore}
use Rattle.ml_repair.specs.Repair.{Stands, AreOwn}
use Rattle.ml_repair.proofs.Carrying.{CarriedLaw, carried_by, stand_test, is_standing, is_same}
use Rattle.ml_repair.proofs.Enough.{FreeLaw, SmallerLaw}

-- some label before the place i hits the label at k
abbrev pub IsHitBelow : List Label → ℕ → Choice → Choice → ℕ → ℕ → Type 0
IsHitBelow labels at b c i k = (j : ℕ) × (j < i) × IsRivalBefore labels j k × ((j ≡ at) ⊎ (¬ (IsSame (b j) (c j))))

-- whether the labels at two places of a list are rivals does not rest on what lies past its end
pub rivals_at : (labels : List Label) (i j : ℕ) (d : Label) → i < length labels → j < length labels →
    AreRivals (get_or labels i d) (get_or labels j d) → (e : Label) → AreRivals (get_or labels i e) (get_or labels j e)
rivals_at labels i j d i_in j_in h e = rw (get_or_default labels i e d i_in, get_or_default labels j e d j_in) h

module _ (free_law : FreeLaw) (smaller_law : SmallerLaw) (carried_law : CarriedLaw) (number : ℕ → ℕ)
    (labels : List Label) (at : ℕ) (comes : Bool) (i : ℕ) (slots old : List Slot) (in' : i < length labels)
    (ends_in : (d : Label) (j : ℕ) → Stands comes true at i j → IsEnd (get_or labels j d) (ends slots j))
    (was : AreOwn number labels old at comes false) (kept : get_or slots i no_slot ≡ get_or old i no_slot)
    (other : i ≢ at) (unhit : ¬ (IsHitBelow labels at (ends old) (ends slots) i i)) where
  before : (d : Label) (j : ℕ) → j < i → AreRivals (get_or labels i d) (get_or labels j d) → IsRivalBefore labels j i
  before d j lt r = (lt, rivals_at labels i j d in' (omega arith) r)

  alike : (d : Label) (j : ℕ) → j < i → AreRivals (get_or labels i d) (get_or labels j d) → AreSameRival (row number labels old d j) (row number labels slots d j)
  alike d j lt r = record {
    number = refl;
    label = refl;
    until = elim (cases_eq ((ends old j).num * (ends slots j).den) ((ends slots j).num * (ends old j).den)) [
      | inl e ↦ e
      | inr differ ↦ absurd (unhit (j, lt, before d j lt r, inr differ))
    ];
  }

  free_at : (d : Label) (j : ℕ) (u : Fraction) → IsAtMost u (value_of (get_or labels j d).max) →
      Allows (get_or labels i d) (get_or labels j d) (value_of (get_or labels j d).max) (value_of (get_or labels i d).max) →
      Allows (get_or labels i d) (get_or labels j d) u (value_of (get_or labels i d).max)
  free_at d j u most free = smaller_law (get_or labels i d) (get_or labels j d) (value_of (get_or labels j d).max) u
      (value_of (get_or labels i d).max) (value_of (get_or labels i d).max) most (omega arith) free

  -- where nothing before a label hits it, its old slot is what the labels that stand before it now leave
  pub own_unhit : (d : Label) → IsOwnSlot (row number labels slots d) (Stands comes true at i) (get_or labels i d) (get_or slots i no_slot)
  own_unhit d =
      rw kept
      (carried_by (Stands comes false at i) (Stands comes true at i) (stand_test comes false at i) (stand_test comes true at i)
      (is_standing comes false at i) (is_standing comes true at i) (λ j k. j ≡ k) (λ j k. j == k) is_same
      carried_law (get_or labels i d) (row number labels old d) (row number labels slots d)
      (record {
        forth = λ j stands.
            let lt : j < i = stands.0 in
            elim (free_law (get_or labels i d) (get_or labels j d)) [
              | inl r ↦ inr (j, (lt, λ e. absurd (unhit (j, lt, before d j lt r, inl e))), alike d j lt r, refl)
              | inr free ↦ inl (free_at d j (ends old j) (was.own d j (omega arith) stands.1).is_end.1 free)
            ];
        back = λ j stands.
            let lt : j < i = stands.0 in
            elim (free_law (get_or labels i d) (get_or labels j d)) [
              | inl r ↦ inr (j, (lt, λ e. absurd (unhit (j, lt, before d j lt r, inl e))), alike d j lt r, refl)
              | inr free ↦ inl (free_at d j (ends slots j) (ends_in d j stands).1 free)
            ];
        order = λ j k i m e e' lt. omega arith;
      })
      (get_or old i no_slot) (was.own d i in' (λ e. absurd (other e))))
