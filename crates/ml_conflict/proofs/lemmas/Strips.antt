-- Which labels a search over strips has seen, and which lie too far away.
use Rattle.std.proofs.Common.{◌≡◌, ℕ, ◌+◌, ◌*◌, ◌<◌, ◌≤◌, List, length, get_or, ◌⊎◌, inl, inr, sym, ap, subst, ◌∙◌, arith, ℤ, ◌-ℤ◌, ◌≤ℤ◌, unsigned_abs}
use Rattle.std.proofs.lemmas.Bool.{cases_lt}
use Rattle.std.proofs.lemmas.Int.{ints}
use Rattle.std.proofs.lemmas.Nat.{mul-le}
use Rattle.std.proofs.lemmas.List.{get_or_default}
use Rattle.ml_ratio.specs.Fraction.{Fraction, value_of}
use Rattle.ml_ratio.specs.declared.ratio.Ratio.{Ratio}
use Rattle.ml_cone.specs.declared.label.Label.{Label}
use Rattle.ml_conflict.specs.Area.{IsOnSide, IsInArea}
use Rattle.ml_conflict.specs.Begin.{SetsNoneUpTo}
use Rattle.ml_conflict.specs.Field.{HasSpot, IsBeyond, SeesSpot}
use Rattle.ml_conflict.specs.Reach.{IsFar, anchor_on}
use Rattle.ml_conflict.specs.Strip.{IsStripOf}
use Rattle.ml_conflict.specs.declared.area.Area.{Area}
use Rattle.ml_conflict.specs.declared.area.Side.{Side}
use Rattle.ml_conflict.specs.declared.axis.Axis.{Axis}
use Rattle.ml_conflict.specs.declared.axis.Axis.TheVariants.{Along}
use Rattle.ml_conflict.specs.declared.spot.Spot.{Spot}
use Rattle.ml_conflict.proofs.Distances.{far_on}

-- ---- what lies too far away

-- what lies further on is too far away too
further : (g h pixels : ℕ) (bound : Ratio) → g ≤ h → pixels * (bound.num + 1) ≤ g * bound.den → pixels * (bound.num + 1) ≤ h * bound.den
further g h pixels bound le far = let m = mul-le g bound.den h bound.den le (omega arith) in omega arith

-- u lies ahead of v; so does what is from u on of what is up to v
pub far_ahead : (u v a b : ℤ) (pixels : ℕ) (bound : Ratio) → IsBeyond u v pixels bound → u ≤ℤ a → b ≤ℤ v → IsFar a b pixels bound
far_ahead u v a b pixels bound beyond from to = let order = beyond.0 in further (unsigned_abs (u -ℤ v)) (unsigned_abs (a -ℤ b)) pixels bound (omega (arith, ints)) beyond.1

-- the same, with the one that lies behind named first
pub far_behind : (u v a b : ℤ) (pixels : ℕ) (bound : Ratio) → IsBeyond u v pixels bound → u ≤ℤ a → b ≤ℤ v → IsFar b a pixels bound
far_behind u v a b pixels bound beyond from to = let order = beyond.0 in further (unsigned_abs (u -ℤ v)) (unsigned_abs (b -ℤ a)) pixels bound (omega (arith, ints)) beyond.1

-- labels on two sides of which one begins too far beyond the end of the other
pub away : (axis : Axis) (low high : Label) (own other : Side) (u : Fraction) (bound : Ratio) → IsOnSide axis low own → IsOnSide axis high other →
    IsBeyond own.from other.to (own.reach + other.reach) bound ⊎ IsBeyond other.from own.to (own.reach + other.reach) bound → SetsNoneUpTo low high u (value_of bound)
away axis low high own other u bound on by (inl beyond) = far_on axis low high own.reach other.reach on.reach by.reach u bound
    (far_ahead own.from other.to (anchor_on axis low) (anchor_on axis high) (own.reach + other.reach) bound beyond on.from by.to)
away axis low high own other u bound on by (inr beyond) = far_on axis low high own.reach other.reach on.reach by.reach u bound
    (far_behind other.from own.to (anchor_on axis high) (anchor_on axis low) (own.reach + other.reach) bound beyond by.from on.to)

module _ (labels : List Label) (low : Label) (spots : List Spot) (area : Area) (strip : IsStripOf labels spots area) where
  -- ---- one spot more, and no more

  module _ (at start : ℕ) (spot : Spot) (at_in : at < length spots) (its : spot ≡ get_or spots at spot) where
    -- what stands at the spot has its place
    here : (k j : ℕ) → k ≡ at → ((d : Spot) → (get_or spots k d).place ≡ j) → j ≡ spot.place
    here k j same is = sym (is spot) ∙ (ap (λ (m : ℕ). (get_or spots m spot).place) same ∙ ap (λ (s : Spot). s.place) (sym its))

    -- spots rise from south to north
    before_it : (k : ℕ) → k < at + 1 → (get_or spots k spot).y ≤ℤ spot.y
    before_it k lt =
        elim (cases_lt k at) [
          | inl less ↦ subst (λ (s : Spot). (get_or spots k spot).y ≤ℤ s.y) (sym its) (strip.rising k at spot less at_in)
          | inr more ↦
              let same : at ≡ k = omega arith in
              subst (λ (m : ℕ). (get_or spots m spot).y ≤ℤ spot.y) same (subst (λ (s : Spot). s.y ≤ℤ spot.y) its (omega (arith, ints)))
        ]

    after_it : (k : ℕ) → at ≤ k → k < length spots → spot.y ≤ℤ (get_or spots k spot).y
    after_it k le lt =
        elim (cases_lt at k) [
          | inl less ↦ subst (λ (s : Spot). s.y ≤ℤ (get_or spots k spot).y) (sym its) (strip.rising at k spot less lt)
          | inr more ↦
              let same : at ≡ k = omega arith in
              subst (λ (m : ℕ). spot.y ≤ℤ (get_or spots m spot).y) same (subst (λ (s : Spot). spot.y ≤ℤ s.y) its (omega (arith, ints)))
        ]

    -- what the spots up to one to the south hold is that spot's label, or lay before
    pub south_more : (left : ℕ) → left ≡ at + 1 → (j : ℕ) → SeesSpot spots at start j → SeesSpot spots left start j ⊎ (j ≡ spot.place)
    south_more left e j saw =
        elim (cases_lt at saw.0) [
          | inl less ↦ inl (saw.0, omega arith, saw.2, saw.3)
          | inr more ↦ let from = saw.1 in inr (here saw.0 j (omega arith) saw.3)
        ]

    -- the same to the north
    pub north_more : (j : ℕ) → SeesSpot spots start (at + 1) j → SeesSpot spots start at j ⊎ (j ≡ spot.place)
    north_more j saw =
        elim (cases_lt saw.0 at) [
          | inl less ↦ inl (saw.0, saw.1, less, saw.3)
          | inr more ↦ let until = saw.2 in inr (here saw.0 j (omega arith) saw.3)
        ]

    module _ (own : Side) (on : IsOnSide Along low own) (bound : Ratio) (u : ℕ → Fraction) where
      none_far : (k j : ℕ) → k < length spots → ((d : Spot) → (get_or spots k d).place ≡ j) →
          IsFar low.y (get_or spots k spot).y (own.reach + area.along.reach) bound → SetsNoneUpTo low (get_or labels j low) (u j) (value_of bound)
      none_far k j in' is far =
          let held = strip.held k spot in' low in
          let at_y = (strip.good k spot in').y low in
          let its_label = ap (λ (m : ℕ). get_or labels m low) (is spot) in
          subst (λ (b : Label). SetsNoneUpTo low b (u j) (value_of bound)) its_label
          (far_on Along low (get_or labels (get_or spots k spot).place low) own.reach area.along.reach on.reach held.along.reach (u j) bound
          (subst (λ (y : ℤ). IsFar low.y y (own.reach + area.along.reach) bound) at_y far))

      -- where a spot lies too far to the south, what stands there or before it sets no limit up to the bound
      pub south_far : (left : ℕ) → left ≡ at + 1 → start ≤ length spots → IsBeyond low.y spot.y (own.reach + area.along.reach) bound →
          (j : ℕ) → SeesSpot spots 0 start j → SeesSpot spots left start j ⊎ SetsNoneUpTo low (get_or labels j low) (u j) (value_of bound)
      south_far left e start_in beyond j saw =
          elim (cases_lt saw.0 left) [
            | inl less ↦
                let k = saw.0 in
                let until = saw.2 in
                inr (none_far k j (omega arith) saw.3 (far_ahead low.y spot.y low.y (get_or spots k spot).y
                (own.reach + area.along.reach) bound beyond (omega (arith, ints)) (before_it k (omega arith))))
            | inr more ↦ inl (saw.0, more, saw.2, saw.3)
          ]

      -- the same to the north
      pub north_far : IsBeyond spot.y low.y (own.reach + area.along.reach) bound → (j : ℕ) → SeesSpot spots start (length spots) j →
          SeesSpot spots start at j ⊎ SetsNoneUpTo low (get_or labels j low) (u j) (value_of bound)
      north_far beyond j saw =
          elim (cases_lt saw.0 at) [
            | inl less ↦ inl (saw.0, saw.1, less, saw.3)
            | inr more ↦
                let k = saw.0 in
                inr (none_far k j saw.2 saw.3 (far_behind spot.y low.y (get_or spots k spot).y low.y (own.reach + area.along.reach) bound beyond (after_it k more saw.2) (omega (arith, ints))))
          ]

  -- a label in an area that is too far away sets no limit
  pub none_away : (u : ℕ → Fraction) (bound : Fraction) → ((high : Label) (v : Fraction) → IsInArea high area → SetsNoneUpTo low high v bound) →
      (j : ℕ) → HasSpot spots j → SetsNoneUpTo low (get_or labels j low) (u j) bound
  none_away u bound none j found =
      let spot = found.0 in
      let k : ℕ = found.1.0 in
      let in' : k < length spots = found.1.1 in
      let is : (get_or spots k spot).place ≡ j = ap (λ (s : Spot). s.place) found.1.2 ∙ found.2 in
      subst (λ (m : ℕ). SetsNoneUpTo low (get_or labels m low) (u j) bound) is (none (get_or labels (get_or spots k spot).place low) (u j) (strip.held k spot in' low))

-- a label that has its spot is seen in the whole
pub sees_whole : (spots : List Spot) (j : ℕ) → HasSpot spots j → SeesSpot spots 0 (length spots) j
sees_whole spots j found =
    let spot = found.0 in
    let k : ℕ = found.1.0 in
    let in' : k < length spots = found.1.1 in
    (k, omega arith, in', λ d. ap (λ (s : Spot). s.place) (get_or_default spots k d spot in' ∙ found.1.2) ∙ found.2)
