-- Which labels a search over a field has seen, to the west and to the east of a label, and which lie too far away.
use Rattle.std.proofs.Common.{◌≡◌, ℕ, ◌+◌, ◌*◌, ◌<◌, ◌≤◌, List, length, get_or, ◌⊎◌, inl, inr, sym, ap, subst, ◌∙◌, arith, ℤ, ◌-ℤ◌, ◌≤ℤ◌, unsigned_abs}
use Rattle.std.proofs.lemmas.Bool.{cases_lt}
use Rattle.std.proofs.lemmas.Int.{ints}
use Rattle.std.proofs.lemmas.Nat.{mul-le}
use Rattle.std.proofs.lemmas.List.{get_or_default}
use Rattle.ml_ratio.specs.Fraction.{Fraction, value_of}
use Rattle.ml_ratio.specs.declared.ratio.Ratio.{Ratio}
use Rattle.ml_cone.specs.declared.label.Label.{Label}
use Rattle.ml_conflict.specs.Begin.{SetsNoneUpTo}
use Rattle.ml_conflict.specs.Field.{IsFieldOf, IsBeyond, SeesSpot}
use Rattle.ml_conflict.specs.Reach.{Reaches, IsFar}
use Rattle.ml_conflict.specs.declared.axis.Axis.TheVariants.{Across}
use Rattle.ml_conflict.specs.declared.spot.Spot.{Spot}
use Rattle.ml_conflict.proofs.Distances.{far_labels}

-- what lies further on is too far away too
further : (g h pixels : ℕ) (bound : Ratio) → g ≤ h → pixels * (bound.num + 1) ≤ g * bound.den → pixels * (bound.num + 1) ≤ h * bound.den
further g h pixels bound le far = let m = mul-le g bound.den h bound.den le (omega arith) in omega arith

beyond_west : (u v w : ℤ) (pixels : ℕ) (bound : Ratio) → w ≤ℤ v → IsBeyond u v pixels bound → IsFar u w pixels bound
beyond_west u v w pixels bound le beyond = let order = beyond.0 in further (unsigned_abs (u -ℤ v)) (unsigned_abs (u -ℤ w)) pixels bound (omega (arith, ints)) beyond.1

beyond_east : (u v w : ℤ) (pixels : ℕ) (bound : Ratio) → u ≤ℤ w → IsBeyond u v pixels bound → IsFar v w pixels bound
beyond_east u v w pixels bound le beyond = let order = beyond.0 in further (unsigned_abs (u -ℤ v)) (unsigned_abs (v -ℤ w)) pixels bound (omega (arith, ints)) beyond.1

module _ (labels : List Label) (low : Label) (spots : List Spot) (reach : ℕ) (field : IsFieldOf labels spots reach) where
  -- ---- spots that are too far away

  module _ (reaches : Reaches Across low reach) (k : ℕ) (d : Spot) (j : ℕ) (u : Fraction) (bound : Ratio) (in' : k < length spots) (its : (get_or spots k d).place ≡ j) where
    its_x : (get_or spots k d).x ≡ (get_or labels j low).x
    its_x = (field.good k d in').x low ∙ ap (λ (m : ℕ). (get_or labels m low).x) its

    its_reach : Reaches Across (get_or labels j low) reach
    its_reach = let there = (field.good k d in').there in field.reaches j low (omega arith)

    none_far : IsFar low.x (get_or spots k d).x (2 * reach) bound → SetsNoneUpTo low (get_or labels j low) u (value_of bound)
    none_far far =
        far_labels low (get_or labels j low) reach reaches its_reach u bound
        (subst (λ (x : ℤ). IsFar low.x x (2 * reach) bound) its_x far)

  -- ---- one spot more, and no more

  module _ (at start : ℕ) (spot : Spot) (at_in : at < length spots) (its : spot ≡ get_or spots at spot) where
    -- what stands at the spot has its place
    here : (k j : ℕ) → k ≡ at → ((d : Spot) → (get_or spots k d).place ≡ j) → j ≡ spot.place
    here k j same is = sym (is spot) ∙ (ap (λ (m : ℕ). (get_or spots m spot).place) same ∙ ap (λ (s : Spot). s.place) (sym its))

    -- spots rise from west to east
    before_it : (k : ℕ) → k < at + 1 → (get_or spots k spot).x ≤ℤ spot.x
    before_it k lt =
        elim (cases_lt k at) [
          | inl less ↦ subst (λ (s : Spot). (get_or spots k spot).x ≤ℤ s.x) (sym its) (field.rising k at spot less at_in)
          | inr more ↦
              let same : at ≡ k = omega arith in
              subst (λ (m : ℕ). (get_or spots m spot).x ≤ℤ spot.x) same (subst (λ (s : Spot). s.x ≤ℤ spot.x) its (omega (arith, ints)))
        ]

    after_it : (k : ℕ) → at ≤ k → k < length spots → spot.x ≤ℤ (get_or spots k spot).x
    after_it k le lt =
        elim (cases_lt at k) [
          | inl less ↦ subst (λ (s : Spot). s.x ≤ℤ (get_or spots k spot).x) (sym its) (field.rising at k spot less lt)
          | inr more ↦
              let same : at ≡ k = omega arith in
              subst (λ (m : ℕ). spot.x ≤ℤ (get_or spots m spot).x) same (subst (λ (s : Spot). spot.x ≤ℤ s.x) its (omega (arith, ints)))
        ]

    -- what the spots up to one to the west hold is that spot's label, or lay before
    pub west_more : (left : ℕ) → left ≡ at + 1 → (j : ℕ) → SeesSpot spots at start j → SeesSpot spots left start j ⊎ (j ≡ spot.place)
    west_more left e j saw =
        elim (cases_lt at saw.0) [
          | inl less ↦ inl (saw.0, omega arith, saw.2, saw.3)
          | inr more ↦ let from = saw.1 in inr (here saw.0 j (omega arith) saw.3)
        ]

    -- the same to the east
    pub east_more : (j : ℕ) → SeesSpot spots start (at + 1) j → SeesSpot spots start at j ⊎ (j ≡ spot.place)
    east_more j saw =
        elim (cases_lt saw.0 at) [
          | inl less ↦ inl (saw.0, saw.1, less, saw.3)
          | inr more ↦ let until = saw.2 in inr (here saw.0 j (omega arith) saw.3)
        ]

    module _ (reaches : Reaches Across low reach) (bound : Ratio) (u : ℕ → Fraction) where
      -- where a spot lies too far to the west, what stands there or before it sets no limit up to the bound
      pub west_far : (left : ℕ) → left ≡ at + 1 → start ≤ length spots → IsBeyond low.x spot.x (2 * reach) bound → (j : ℕ) →
          SeesSpot spots 0 start j → SeesSpot spots left start j ⊎ SetsNoneUpTo low (get_or labels j low) (u j) (value_of bound)
      west_far left e start_in beyond j saw =
          elim (cases_lt saw.0 left) [
            | inl less ↦
                let k = saw.0 in
                let until = saw.2 in
                let west = before_it k (omega arith) in
                inr (none_far reaches k spot j (u j) bound (omega arith) (saw.3 spot) (beyond_west low.x spot.x (get_or spots k spot).x (2 * reach) bound west beyond))
            | inr more ↦ inl (saw.0, more, saw.2, saw.3)
          ]

      -- the same to the east
      pub east_far : IsBeyond spot.x low.x (2 * reach) bound → (j : ℕ) → SeesSpot spots start (length spots) j →
          SeesSpot spots start at j ⊎ SetsNoneUpTo low (get_or labels j low) (u j) (value_of bound)
      east_far beyond j saw =
          elim (cases_lt saw.0 at) [
            | inl less ↦ inl (saw.0, saw.1, less, saw.3)
            | inr more ↦
                let k = saw.0 in
                let east = after_it k more saw.2 in
                inr (none_far reaches k spot j (u j) bound saw.2 (saw.3 spot) (beyond_east spot.x low.x (get_or spots k spot).x (2 * reach) bound east beyond))
          ]

  -- each label has its spot to the one side or the other
  pub either_side : (start j : ℕ) → j < length labels → SeesSpot spots 0 start j ⊎ SeesSpot spots start (length spots) j
  either_side start j lt =
      let found = field.each j lt in
      let spot = found.0 in
      let k : ℕ = found.1.0 in
      let in' : k < length spots = found.1.1 in
      let is : (d : Spot) → (get_or spots k d).place ≡ j = λ d. ap (λ (s : Spot). s.place) (get_or_default spots k d spot in' ∙ found.1.2) ∙ found.2 in
      elim (cases_lt k start) [
        | inl less ↦ inl (k, omega arith, less, is)
        | inr more ↦ inr (k, more, in', is)
      ]
