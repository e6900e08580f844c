-- The test of a band, and the sum of entries over bands.
use Rattle.std.proofs.Common.{◌≡◌, ℕ, zero, suc, ◌+◌, ◌*◌, ◌^◌, ◌<◌, ◌≤◌, true, false, arith, Bool, inl, inr, ◌&&◌, ◌||◌, ap, refl}
use Rattle.std.proofs.lemmas.Bool.Decides.{nat_tests}
use Rattle.std.proofs.lemmas.Bool.{cases_lt}
use Rattle.std.specs.Prelude.{nat_lt, nat_le, ◌==◌, if◌then◌else◌}
use Rattle.ml_ratio.specs.Fraction.{value_of}
use Rattle.ml_ratio.specs.Band.{MeetsBand}
use Rattle.ml_cone.specs.declared.label.Label.{Label}
use Rattle.ml_cone.specs.Hull.{hull_of}
use Rattle.ml_grid.specs.Count.{meets_band, band_count, entries_below, entry_count, cell_count}

both : (a b c : ℕ) (k f g : ℕ) → (nat_lt a b && ((k == 0) || nat_le f g)) ≡ true → (a < b) × (0 < k → f ≤ g)
both a b c k f g h = (grind (arith, nat_tests), λ p. grind (arith, nat_tests))

of_both : (a b : ℕ) (k f g : ℕ) → a < b → (0 < k → f ≤ g) → (nat_lt a b && ((k == 0) || nat_le f g)) ≡ true
of_both a b k f g h i = grind (arith, nat_tests)

-- a band that passes the test meets the label's range
pub meets_of : (a : Label) (k : ℕ) → meets_band a k ≡ true → MeetsBand k (value_of a.min) (value_of a.max)
unfolding meets_band
meets_of a k h =
    let p = both a.min.num (2 ^ (k + 1) * a.min.den) 0 k (2 ^ k * a.max.den) a.max.num h in
    record { begins = p.0; reaches = p.1 }

-- a band that meets the label's range passes the test
pub of_meets : (a : Label) (k : ℕ) → MeetsBand k (value_of a.min) (value_of a.max) → meets_band a k ≡ true
unfolding meets_band
of_meets a k h = of_both a.min.num (2 ^ (k + 1) * a.min.den) k (2 ^ k * a.max.den) a.max.num h.begins h.reaches

-- in a band that passes the test a label has as many entries as its hull there has cells
pub count_met : (a : Label) (k : ℕ) → meets_band a k ≡ true → band_count a k ≡ cell_count (hull_of a k)
unfolding band_count
count_met a k h = ap (λ (b : Bool). if b then cell_count (hull_of a k) else 0) h

-- in a band that fails the test a label has no entries
pub count_unmet : (a : Label) (k : ℕ) → meets_band a k ≡ false → band_count a k ≡ 0
unfolding band_count
count_unmet a k h = ap (λ (b : Bool). if b then cell_count (hull_of a k) else 0) h

-- a label has no entries in the bands below 0, as there are none
pub below_none : (a : Label) → entries_below a 0 ≡ 0
unfolding entries_below
below_none a = refl

-- one band more
pub below_next : (a : Label) (k : ℕ) → entries_below a (k + 1) ≡ entries_below a k + band_count a k
unfolding entries_below
below_next a k = let e : k + 1 ≡ suc k = omega arith in ap (entries_below a) e

-- the bands below k have no more entries than those below any greater number
pub below_mono : (a : Label) (k n : ℕ) → k ≤ n → entries_below a k ≤ entries_below a n
below_mono a k zero h = let e : k ≡ 0 = omega arith in rw e (omega arith)
below_mono a k (suc n) h =
    elim (cases_lt n k) [
      | inl less ↦ let e : k ≡ suc n = omega arith in rw e (omega arith)
      | inr more ↦
          let one = below_mono a k n more in
          let two = below_next a n in
          let e : entries_below a (n + 1) ≡ entries_below a (suc n) = ap (entries_below a) (omega arith) in
          omega arith
    ]

-- a label has as many entries in the bands below 28 as it has at all
pub count_all : (a : Label) → entries_below a 28 ≡ entry_count a
unfolding entry_count
count_all a = refl
