use Rattle.std.proofs.Common.{◌≡◌, ◌∙◌, ap, ℕ, ℤ}
use Rattle.std.proofs.lemmas.Map.Lookups.{exact_unsigned, exact_signed}
use Rattle.std.specs.Cmp.{IsTotalOrder, on_total, then_total, nat_cmp_total, int_cmp_total}
use Rattle.std.specs.Ordering.{nat_cmp, int_cmp, on, then_cmp, ordering_then}
use Rattle.std.specs.declared.cmp.Ordering.{Ordering}
use Rattle.ml_spans.specs.Key.{IsExact, then_equal}
use Rattle.ml_grid.specs.declared.cell.Cell.{Cell}

-- cells by band, then x, then y
abbrev pub cell_cmp : Cell → Cell → Ordering
cell_cmp = then_cmp (then_cmp (on (λ c. c.band) nat_cmp) (on (λ c. c.x) int_cmp)) (on (λ c. c.y) int_cmp)

-- this is a total order
pub cell_total : IsTotalOrder cell_cmp
cell_total = then_total (then_total (on_total (λ c. c.band) nat_cmp_total) (on_total (λ c. c.x) int_cmp_total)) (on_total (λ c. c.y) int_cmp_total)

-- the cell of these parts
abbrev pub cell_of : ℕ → ℤ → ℤ → Cell
cell_of k x y = record { band = k; x = x; y = y }

-- cells with the same parts are the same
pub same_cell : (k m : ℕ) (x u y v : ℤ) → k ≡ m → x ≡ u → y ≡ v → ◌≡◌ {A = Cell} (record { band = k; x = x; y = y }) (record { band = m; x = u; y = v })
same_cell k m x u y v p q r =
    ap (λ (n : ℕ). cell_of n x y) p ∙ (ap (λ (z : ℤ). cell_of m z y) q ∙ ap (λ (z : ℤ). cell_of m u z) r)

-- cells that the order does not tell apart are the same
pub cell_exact : IsExact cell_cmp
cell_exact a b h =
    let outer = then_equal (ordering_then (nat_cmp a.band b.band) (int_cmp a.x b.x)) (int_cmp a.y b.y) h in
    let inner = then_equal (nat_cmp a.band b.band) (int_cmp a.x b.x) outer.0 in
    same_cell a.band b.band a.x b.x a.y b.y (exact_unsigned a.band b.band inner.0) (exact_signed a.x b.x inner.1) (exact_signed a.y b.y outer.1)
