-- Where some rivals are enough, the slot that they leave is the slot among all.
use Rattle.std.proofs.Common.{◌≡◌, ℕ, ◌*◌, ◌<◌, List, length, get_or, map, Contains, inl, inr, refl, subst, ◌∙◌, arith}
use Rattle.std.proofs.lemmas.Bool.{cases_lt}
use Rattle.std.proofs.lemmas.List.{get_or_default, get_or-map, length-map}
use Rattle.ml_ratio.specs.Fraction.{Fraction, value_of, IsLess, IsAtMost}
use Rattle.ml_cone.specs.Choice.{IsLimit}
use Rattle.ml_cone.specs.Slots.{Rival, RivalAllows, IsOwnSlot, IsSlotAmong, rival_at}
use Rattle.ml_cone.specs.declared.label.Label.{Label}
use Rattle.ml_cone.specs.declared.slot.Slot.{Slot}
use Rattle.ml_conflict.specs.Begin.{SetsNoneUpTo}
use Rattle.ml_conflict.specs.Carried.{IsOrdered, AreSameRival, AreCarried, AreJoined}
use Rattle.ml_conflict.specs.Enough.{AreEnough}
use Rattle.ml_conflict.proofs.Greedy.{Allows-smaller}
use Rattle.ml_conflict.proofs.Limits.{allowed_up_to}
use Rattle.ml_conflict.proofs.Carried.{alike_of, own_carried, own_joined}

module _ (low : Label) (rivals : ℕ → Rival) (n : ℕ) (bound : Fraction) (places : List ℕ) (slot : Slot)
    (are : AreEnough low rivals n bound places) (among : IsSlotAmong low (map rivals places) slot) where
  -- the rival at place k of those that are enough is the one at this place
  abbrev Linked : ℕ → ℕ → Type 0
  Linked k j = (k < length places) × (get_or places k 0 ≡ j)

  found_is : (k : ℕ) → k < length places → rival_at low (map rivals places) k ≡ rivals (get_or places k 0)
  found_is k lt = get_or-map rivals places k 0 (record { number = 0; label = low; until = low.max }) lt

  in_order : IsOrdered Linked
  in_order j k i m one other less =
      elim (cases_lt i j) [
        | inl lt ↦ lt
        | inr more ↦
            let up = are.ascending j i 0 more other.0 in
            let e : get_or places j 0 ≡ k = one.1 in
            let f : get_or places i 0 ≡ m = other.1 in
            absurd (omega arith)
      ]

  -- forth and back between the places and the rivals at them
  forward : (k : ℕ) → k < length (map rivals places) → (j : ℕ) × (j < n) × AreSameRival (rival_at low (map rivals places) k) (rivals j) × Linked k j
  forward k lt =
      let many = length-map places rivals in
      let h : k < length places = omega arith in
      let in' : get_or places k 0 < n = are.within k 0 h in
      (get_or places k 0, in', alike_of (rival_at low (map rivals places) k) (rivals (get_or places k 0)) (found_is k h), (h, refl))

  backward : (j : ℕ) → Contains places j → (k : ℕ) × (k < length (map rivals places)) × AreSameRival (rival_at low (map rivals places) k) (rivals j) × Linked k j
  backward j there =
      let k = there.0 in
      let h : k < length places = there.1 in
      let many = length-map places rivals in
      let e : get_or places k 0 ≡ j = get_or_default places k 0 j h ∙ there.2 in (
        k,
        omega arith,
        subst (λ (p : ℕ). AreSameRival (rival_at low (map rivals places) k) (rivals p)) e (alike_of (rival_at low (map rivals places) k) (rivals (get_or places k 0)) (found_is k h)),
        (h, e),
      )

  allowed_there : (j : ℕ) → Contains places j → RivalAllows low (value_of slot.until) (rivals j)
  allowed_there j there =
      let k = there.0 in
      let h : k < length places = there.1 in
      let many = length-map places rivals in
      let e : get_or places k 0 ≡ j = get_or_default places k 0 j h ∙ there.2 in
      subst (λ (p : ℕ). RivalAllows low (value_of slot.until) (rivals p)) e (subst (RivalAllows low (value_of slot.until)) (found_is k h) (among.allowed k (omega arith)))

  under_bound : IsAtMost (value_of slot.until) bound
  under_bound = are.leave (value_of slot.until) among.is_end allowed_there

  -- a rival that sets no limit up to the bound allows the end, and does not set it below the maximum
  other_allows : (j : ℕ) → SetsNoneUpTo low (rivals j).label (value_of (rivals j).until) bound → RivalAllows low (value_of slot.until) (rivals j)
  other_allows j none =
      let v = value_of (rivals j).until in
      Allows-smaller low (rivals j).label v v (value_of slot.until) bound (omega arith) under_bound (allowed_up_to low (rivals j).label v bound are.low_bound none)

  other_limits : (j : ℕ) → SetsNoneUpTo low (rivals j).label (value_of (rivals j).until) bound →
      IsLess (value_of slot.until) (value_of low.max) → ¬ (IsLimit low (rivals j).label (value_of (rivals j).until) (value_of slot.until))
  other_limits j none below limit =
      let above : IsLess bound (value_of slot.until) = none (value_of slot.until) limit below in
      let under = under_bound in
      omega arith

  joined_here : IsLess (value_of slot.until) (value_of low.max) →
      AreJoined low (value_of slot.until) (rival_at low (map rivals places)) rivals (λ k. k < length (map rivals places)) (λ j. j < n) Linked
  joined_here below = record {
    forth = forward;
    back = λ j lt. elim (are.others j lt) [
      | inl there ↦ inr (backward j there)
      | inr none ↦ inl (other_allows j none, other_limits j none below)
    ];
    order = in_order;
  }

  carried_here : IsAtMost (value_of low.max) (value_of slot.until) → AreCarried low (rival_at low (map rivals places)) rivals (λ k. k < length (map rivals places)) (λ j. j < n) Linked
  carried_here most = record {
    forth = λ k lt. inr (forward k lt);
    back = λ j lt. elim (are.others j lt) [
      | inl there ↦ inr (backward j there)
      | inr none ↦
          let v = value_of (rivals j).until in
          inl (Allows-smaller low (rivals j).label v v (value_of low.max) (value_of slot.until) (omega arith) most (other_allows j none))
    ];
    order = in_order;
  }

  -- the slot that the rivals at these places leave is the label's own slot among all n
  pub own_of_enough : IsOwnSlot rivals (λ j. j < n) low slot
  own_of_enough =
      elim (cases_lt (slot.until.num * low.max.den) (low.max.num * slot.until.den)) [
        | inl below ↦ own_joined low (rival_at low (map rivals places)) rivals (λ k. k < length (map rivals places)) (λ j. j < n) Linked slot (joined_here below) among
        | inr most ↦ own_carried low (rival_at low (map rivals places)) rivals (λ k. k < length (map rivals places)) (λ j. j < n) Linked (carried_here most) slot among
      ]
