-- The cells of a column stand together.
use Rattle.std.proofs.Common.{◌≡◌, ◌&&◌, ℕ, ℤ, Bool, true, arith, refl, ◌∙◌, ◌≤ℤ◌}
use Rattle.std.proofs.lemmas.Int.{ints}
use Rattle.std.proofs.lemmas.Bool.Decides.{nat_tests}
use Rattle.std.specs.Ordering.{nat_cmp, int_cmp, is_le, ordering_then}
use Rattle.ml_spans.specs.Search.{is_within}
use Rattle.ml_grid.specs.Cell.{cell_cmp}
use Rattle.ml_grid.specs.declared.cell.Cell.{Cell}

-- a key from (k, u, low) to (k, u, high), part by part
within : ℕ → ℤ → ℤ → ℤ → ℕ → ℤ → ℤ → Bool
within k u low high m x y =
    is_le (ordering_then (ordering_then (nat_cmp k m) (int_cmp u x)) (int_cmp low y)) && is_le (ordering_then (ordering_then (nat_cmp m k) (int_cmp x u)) (int_cmp y high))

within_band : (k : ℕ) (u low high : ℤ) (m : ℕ) (x y : ℤ) → within k u low high m x y ≡ true → m ≡ k
unfolding within
within_band k u low high m x y h = grind (arith, ints, nat_tests)

within_x : (k : ℕ) (u low high : ℤ) (m : ℕ) (x y : ℤ) → within k u low high m x y ≡ true → x ≡ u
unfolding within
within_x k u low high m x y h = grind (arith, ints, nat_tests)

within_low : (k : ℕ) (u low high : ℤ) (m : ℕ) (x y : ℤ) → within k u low high m x y ≡ true → low ≤ℤ y
unfolding within
within_low k u low high m x y h = grind (arith, ints, nat_tests)

within_high : (k : ℕ) (u low high : ℤ) (m : ℕ) (x y : ℤ) → within k u low high m x y ≡ true → y ≤ℤ high
unfolding within
within_high k u low high m x y h = grind (arith, ints, nat_tests)

within_all : (k : ℕ) (u low high : ℤ) (y : ℤ) → low ≤ℤ y → y ≤ℤ high → within k u low high k u y ≡ true
unfolding within
within_all k u low high y h i = grind (arith, ints, nat_tests)

-- the key lies between the cells of column u of band k from low to high
pub in_column : (k : ℕ) (u low high : ℤ) (c : Cell) → is_within cell_cmp (record { band = k; x = u; y = low }) (record { band = k; x = u; y = high }) c ≡ true →
    (c.band ≡ k) × (c.x ≡ u) × (low ≤ℤ c.y) × (c.y ≤ℤ high)
unfolding within
in_column k u low high c h =
    (within_band k u low high c.band c.x c.y h, within_x k u low high c.band c.x c.y h, within_low k u low high c.band c.x c.y h, within_high k u low high c.band c.x c.y h)

-- a cell of column u of band k from low to high has its key between those of the lowest and the highest of these cells
pub of_column : (k : ℕ) (u low high : ℤ) (c : Cell) → c.band ≡ k → c.x ≡ u → low ≤ℤ c.y → c.y ≤ℤ high →
    is_within cell_cmp (record { band = k; x = u; y = low }) (record { band = k; x = u; y = high }) c ≡ true
unfolding within
of_column k u low high c p q h i =
    let e : within k u low high k u c.y ≡ true = within_all k u low high c.y h i in
    let f : within k u low high c.band c.x c.y ≡ within k u low high k u c.y = rw (p, q) refl in
    f ∙ e
