-- Numbers that went to bits and came back.
use Rattle.std.proofs.Common.{◌≡◌, ◌∙◌, ap, refl, ℕ, ◌^◌, ◌<◌, arith, w32, ℤ, pos, ◌+ℤ◌, ◌≤ℤ◌, FitsSigned, to_z, of_z}
use Rattle.std.proofs.lemmas.Int.{ints, to_z-of_z, to_z_pos}
use Rattle.ml_grid.specs.Count.{count_between}

-- what lies between two numbers that fit in 32 bits fits there too
pub between_fits : (a b x : ℤ) → FitsSigned w32 a → FitsSigned w32 b → a ≤ℤ x → x ≤ℤ b → FitsSigned w32 x
between_fits a b x f g h i = omega (arith, ints)

-- a sum from its bits
pub sum_back : (a : ℤ) (n m : ℕ) → FitsSigned w32 a → n < 2 ^ 31 → FitsSigned w32 (a +ℤ pos n) → n ≡ m → to_z w32 (of_z w32 (to_z w32 (of_z w32 a) +ℤ to_z w32 n)) ≡ (a +ℤ pos m)
sum_back a n m f low g e =
    let p : to_z w32 n ≡ pos n = to_z_pos w32 n low in
    let q : (to_z w32 (of_z w32 a) +ℤ to_z w32 n) ≡ (a +ℤ pos n) = rw (to_z-of_z w32 a f, p) refl in
    ap (λ (z : ℤ). to_z w32 (of_z w32 z)) q ∙ to_z-of_z w32 (a +ℤ pos n) g ∙ ap (λ (k : ℕ). a +ℤ pos k) e

-- a sum of two numbers that came back from bits fits in 32 bits where their own sum does
pub sum_fits : (a : ℤ) (n m : ℕ) → FitsSigned w32 a → n < 2 ^ 31 → FitsSigned w32 (a +ℤ pos m) → n ≡ m → FitsSigned w32 (to_z w32 (of_z w32 a) +ℤ to_z w32 n)
sum_fits a n m f low g e =
    let p : to_z w32 n ≡ pos n = to_z_pos w32 n low in
    rw (to_z-of_z w32 a f, p, e) g

-- from a column to one at most eight further on there are fewer than ten columns
pub few_span : (a b : ℤ) → a ≤ℤ b → b ≤ℤ (a +ℤ pos 8) → count_between a b < 10
few_span a b h i = omega (arith, ints)

-- the number of rows, as it was computed
pub rows_back : (a b : ℤ) (r : ℕ) → FitsSigned w32 a → FitsSigned w32 b → r ≡ count_between (to_z w32 (of_z w32 a)) (to_z w32 (of_z w32 b)) → r ≡ count_between a b
rows_back a b r f g e = e ∙ (rw (to_z-of_z w32 a f, to_z-of_z w32 b g) refl)
