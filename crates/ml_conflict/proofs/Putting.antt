-- A spot is put into a strip, and a strip changes among strips.
use Rattle.std.proofs.Common.{◌≡◌, ℕ, ◌+◌, ◌-◌, ◌<◌, ◌≤◌, List, ◌∷◌, length, get_or, set, Bool, true, false, inl, inr, refl, sym, subst, arith, ℤ, ◌≤ℤ◌, ◌<ℤ◌, add-one}
use lib.Signed.{lt_z}
use Rattle.std.specs.List.{AllPairs, AllWithin, insert}
use Rattle.std.specs.List.Sorted.{IsPartitionedBy}
use Rattle.std.proofs.lemmas.Bool.{cases_lt, cases_order}
use Rattle.std.proofs.lemmas.Int.{ints}
use Rattle.std.proofs.lemmas.List.{get_or-set_other, get_or-set_same, length-set}
use Rattle.std.proofs.lemmas.List.Edits.{length-insert, get_or-insert_below, get_or-insert_at, get_or-insert_above}
use Rattle.std.proofs.lemmas.List.Elements.{All-cons, All-set}
use Rattle.std.proofs.lemmas.List.Sorted.{All-permutation, Contains-permutation, IsPermutation-insert}
use Rattle.ml_cone.specs.declared.label.Label.{Label}
use Rattle.ml_conflict.specs.Area.{IsInArea}
use Rattle.ml_conflict.specs.Field.{IsSpotOf, HasSpot}
use Rattle.ml_conflict.specs.Strip.{IsStripOf, AreStrips, HasPlace}
use Rattle.ml_conflict.specs.declared.area.Area.{Area}
use Rattle.ml_conflict.specs.declared.spot.Spot.{Spot}
use Rattle.ml_conflict.specs.declared.strip.Strip.{Strip}

-- ---- where the spots to the south end

-- whether the spot lies to the south of y
abbrev pub is_south : ℤ → Spot → Bool
is_south y spot = lt_z spot.y y

-- where the test of whole numbers says less, x is below y
pub less_of : (x y : ℤ) → lt_z x y ≡ true → x <ℤ y
less_of x y is = grind (arith, ints)

-- where it does not say less, y is at most x
pub most_of : (x y : ℤ) → lt_z x y ≡ false → y ≤ℤ x
most_of x y is = grind (arith, ints)

less_is : (x y : ℤ) → x <ℤ y → lt_z x y ≡ true
less_is x y less = grind (arith, ints)

-- among spots from south to north, those to the south of y come before all others
pub south_parted : (spots : List Spot) (y : ℤ) → AllPairs (λ a b. a.y ≤ℤ b.y) spots → IsPartitionedBy (is_south y) spots
south_parted spots y rising i j d le lt south =
    elim (cases_lt i j) [
      | inl less ↦
          let up = rising i j d less lt in
          let below = less_of (get_or spots j d).y y south in
          less_is (get_or spots i d).y y (omega (arith, ints))
      | inr more ↦
          let same : j ≡ i = omega arith in
          subst (λ (k : ℕ). is_south y (get_or spots k d) ≡ true) same south
    ]

-- ---- one spot more

-- what lies in order stays so where one more is put between what lies before it and what lies behind it
pairs_insert : (R : Spot → Spot → Type 0) (spots : List Spot) (at : ℕ) (spot : Spot) → at ≤ length spots → AllPairs R spots →
    AllWithin (λ s. R s spot) spots 0 at → AllWithin (λ s. R spot s) spots at (length spots) → AllPairs R (insert spots at spot)
pairs_insert R spots at spot in' pairs before behind i j d less lt =
    let long = length-insert spots at spot in' in
    elim (cases_order j at) [
      | inl same ↦
          let below : i < at = omega arith in
          subst (λ (k : ℕ). R (get_or (insert spots at spot) i d) (get_or (insert spots at spot) k d)) (sym same)
          (rw (get_or-insert_below spots at spot d i below in', get_or-insert_at spots at spot d in') (before i d (omega arith) below))
      | inr (inl south) ↦
          let below : i < at = omega arith in
          rw (get_or-insert_below spots at spot d i below in', get_or-insert_below spots at spot d j south in') (pairs i j d less (omega arith))
      | inr (inr north) ↦
          let m : ℕ = j - 1 in
          let up : m + 1 ≡ j = omega arith in
          let past : at ≤ m = omega arith in
          let m_in : m < length spots = omega arith in
          subst (λ (k : ℕ). R (get_or (insert spots at spot) i d) (get_or (insert spots at spot) k d)) up
          (rw (get_or-insert_above spots at spot d m past in')
          (elim (cases_order i at) [
            | inl same ↦ subst (λ (k : ℕ). R (get_or (insert spots at spot) k d) (get_or spots m d)) (sym same) (rw (get_or-insert_at spots at spot d in') (behind m d past m_in))
            | inr (inl below) ↦ rw (get_or-insert_below spots at spot d i below in') (pairs i m d (omega arith) m_in)
            | inr (inr above) ↦
                let n : ℕ = i - 1 in
                let next : n + 1 ≡ i = omega arith in
                let over : at ≤ n = omega arith in
                subst (λ (k : ℕ). R (get_or (insert spots at spot) k d) (get_or spots m d)) next (rw (get_or-insert_above spots at spot d n over in') (pairs n m d (omega arith) m_in))
          ]))
    ]

module _ (labels : List Label) (spots : List Spot) (area next : Area) (at : ℕ) (spot : Spot) (in' : at ≤ length spots) where
  -- a spot put behind those to its south and before all others makes a strip, in an area that holds its label as well
  pub put_strip : IsStripOf labels spots area → IsSpotOf labels spot → AllWithin (λ s. s.y <ℤ spot.y) spots 0 at →
      AllWithin (λ s. spot.y ≤ℤ s.y) spots at (length spots) → ((a : Label) → IsInArea a area → IsInArea a next) →
      ((d : Label) → IsInArea (get_or labels spot.place d) next) → IsStripOf labels (insert spots at spot) next
  put_strip strip is south north stays comes = record {
    good = All-permutation (IsSpotOf labels) (spot ∷ spots) (insert spots at spot) (IsPermutation-insert spots at spot) (All-cons (IsSpotOf labels) spot spots is strip.good);
    rising = pairs_insert (λ a b. a.y ≤ℤ b.y) spots at spot in' strip.rising (λ k d from lt. let less = south k d from lt in omega (arith, ints)) north;
    held = All-permutation Held (spot ∷ spots) (insert spots at spot) (IsPermutation-insert spots at spot)
        (All-cons Held spot spots comes (λ k d lt. λ e. stays (get_or labels (get_or spots k d).place e) (strip.held k d lt e)));
  }
    where
      Held : Spot → Type 0
      Held = λ s. (d : Label) → IsInArea (get_or labels s.place d) next

  -- a label that had its spot there still has it when another is put in
  pub put_keeps : (j : ℕ) → HasSpot spots j → HasSpot (insert spots at spot) j
  put_keeps j (s, (k, lt, is), its) = (s, Contains-permutation (spot ∷ spots) (insert spots at spot) s (IsPermutation-insert spots at spot) (k + 1, omega arith, rw add-one is), its)

  -- the label whose spot was put in has it there
  pub put_here : HasSpot (insert spots at spot) spot.place
  put_here = (spot, Contains-permutation (spot ∷ spots) (insert spots at spot) spot (IsPermutation-insert spots at spot) (0, omega arith, refl), refl)

-- ---- a strip changes

module _ (labels : List Label) (strips : List Strip) (home : ℕ) (strip : Strip) (in' : home < length strips) where
  -- with another strip in place of one, all of them are strips of the labels
  pub strips_set : AreStrips labels strips → IsStripOf labels strip.spots.items strip.area → AreStrips labels (set strips home strip)
  strips_set all one = All-set (λ (s : Strip). IsStripOf labels s.spots.items s.area) strips home strip one all

  -- a label that has its spot in the strip that was set has a place in the strips
  pub place_here : (j : ℕ) → HasSpot strip.spots.items j → HasPlace (set strips home strip) j
  place_here j has = (home, omega arith, omega (arith, length-set strips home strip), λ d. rw (get_or-set_same strips home strip d in') has)

  -- a label that had a place in the strips keeps it where the new strip has all spots of the one that it replaces
  pub places_kept : ((j : ℕ) → HasSpot (get_or strips home strip).spots.items j → HasSpot strip.spots.items j) → (j : ℕ) → HasPlace strips j → HasPlace (set strips home strip) j
  places_kept keeps j (k, from, lt, has) =
      elim (cases_order k home) [
        | inl same ↦ place_here j (keeps j (subst (λ (m : ℕ). HasSpot (get_or strips m strip).spots.items j) same (has strip)))
        | inr (inl less) ↦ (k, from, omega (arith, length-set strips home strip), λ d. rw (get_or-set_other strips home k strip d (omega arith)) (has d))
        | inr (inr more) ↦ (k, from, omega (arith, length-set strips home strip), λ d. rw (get_or-set_other strips home k strip d (omega arith)) (has d))
      ]
