-- The columns that a window meets.
use Rattle.std.proofs.Common.{◌≡◌, ap, ℕ, ◌+◌, ◌*◌, ◌^◌, ◌<◌, ◌≤◌, ◌/◌, ◌%◌, arith, ◌↔◌, w32, FitsSigned, ℤ, pos, negsuc, ◌+ℤ◌, ◌-ℤ◌, ◌*ℤ◌, ◌≤ℤ◌, ◌<ℤ◌}
use Rattle.std.specs.Int.{int_div_euclid}
use Rattle.std.proofs.lemmas.Int.{ints}
use Rattle.std.proofs.lemmas.Nat.{mul-le, mul-lt, pow-add, pow_pos}
use Rattle.ml_ratio.specs.Band.{IsInBand}
use Rattle.ml_ratio.specs.Fraction.{Fraction, value_of}
use Rattle.ml_ratio.specs.World.{IsInWorld}
use Rattle.ml_cone.specs.Cells.{cell_side}
use Rattle.ml_cone.specs.Cell.{ColumnInWindow}
use Rattle.ml_ratio.proofs.lemmas.Rounding.{quotient_low, quotient_high, stretch_le, scaled_le, sum_scaled}
use Rattle.ml_cone.specs.declared.cells.Cells.{Cells}
use Rattle.ml_cone.specs.declared.view.View.{View}
use Rattle.ml_grid.specs.Count.{AreUpToNine, count_between, cell_count}
use Rattle.ml_grid.specs.Window.{HasFewCells}

-- the columns from floor((m - h) / side) to floor((m + h - 1) / side) are those that the open stretch from m - h to m + h meets
open_columns : (m : ℤ) (h side : ℕ) → 0 < side → (x : ℤ) →
    ((int_div_euclid (m -ℤ pos h) (pos side) ≤ℤ x) × (x ≤ℤ int_div_euclid ((m +ℤ pos h) -ℤ pos 1) (pos side)))
    ↔ (((x *ℤ pos side) <ℤ (m +ℤ pos h)) × ((m -ℤ pos h) <ℤ ((x +ℤ pos 1) *ℤ pos side)))
open_columns m h side positive x =
    let a = int_div_euclid (m -ℤ pos h) (pos side) in
    let b = int_div_euclid ((m +ℤ pos h) -ℤ pos 1) (pos side) in
    let a_low = quotient_low (m -ℤ pos h) side positive in
    let a_high = quotient_high (m -ℤ pos h) side positive in
    let b_low = quotient_low ((m +ℤ pos h) -ℤ pos 1) side positive in
    let b_high = quotient_high ((m +ℤ pos h) -ℤ pos 1) side positive in (
      λ k.
          let up_to = scaled_le x b side k.1 in
          let from : (a +ℤ pos 1) ≤ℤ (x +ℤ pos 1) = (let f = k.0 in omega (arith, ints)) in
          let above = scaled_le (a +ℤ pos 1) (x +ℤ pos 1) side from in
          (omega (arith, ints), omega (arith, ints)),
      λ k.
          let k0 = k.0 in
          let k1 = k.1 in (
            stretch_le a x (m -ℤ pos h) (m -ℤ pos h) side a_low (omega (arith, ints)) k1,
            stretch_le x b (x *ℤ pos side) ((m +ℤ pos h) -ℤ pos 1) side (omega (arith, ints)) (omega (arith, ints)) b_high,
          ),
    )

-- and they are few where the stretch is at most eight sides long
few_open : (m : ℤ) (h side : ℕ) → 0 < side → 0 < h → 2 * h ≤ 8 * side →
    AreUpToNine (int_div_euclid (m -ℤ pos h) (pos side)) (int_div_euclid ((m +ℤ pos h) -ℤ pos 1) (pos side))
few_open m h side positive wide short =
    let a = int_div_euclid (m -ℤ pos h) (pos side) in
    let b = int_div_euclid ((m +ℤ pos h) -ℤ pos 1) (pos side) in
    let a_low = quotient_low (m -ℤ pos h) side positive in
    let a_high = quotient_high (m -ℤ pos h) side positive in
    let b_low = quotient_low ((m +ℤ pos h) -ℤ pos 1) side positive in
    let b_high = quotient_high ((m +ℤ pos h) -ℤ pos 1) side positive in
    let e1 = sum_scaled a (pos 1) side in
    let e2 = sum_scaled a (pos 8) side in
    let e3 = sum_scaled (a +ℤ pos 8) (pos 1) side in (
      stretch_le a b (m -ℤ pos h) ((m +ℤ pos h) -ℤ pos 1) side a_low (omega (arith, ints)) b_high,
      stretch_le b (a +ℤ pos 8) ((m +ℤ pos h) -ℤ pos 1) ((m +ℤ pos h) -ℤ pos 1) side b_low (omega (arith, ints)) (omega (arith, ints)),
    )

-- and they fit in 32 bits where the stretch lies about a place of the world
pub columns_fit : (c : ℤ) (d h side : ℕ) → IsInWorld c → 0 < d → 1024 * d ≤ side →
    AreUpToNine (int_div_euclid ((c *ℤ pos d) -ℤ pos h) (pos side)) (int_div_euclid (((c *ℤ pos d) +ℤ pos h) -ℤ pos 1) (pos side)) →
    FitsSigned w32 (int_div_euclid ((c *ℤ pos d) -ℤ pos h) (pos side)) × FitsSigned w32 (int_div_euclid (((c *ℤ pos d) +ℤ pos h) -ℤ pos 1) (pos side))
columns_fit c d h side world some wide few =
    let m = c *ℤ pos d in
    let a = int_div_euclid (m -ℤ pos h) (pos side) in
    let b = int_div_euclid ((m +ℤ pos h) -ℤ pos 1) (pos side) in
    let positive : 0 < side = omega arith in
    let high = scaled_le c (pos 2000000000) d world.1 in
    let low = scaled_le (negsuc 1999999999) c d world.0 in
    let most : a ≤ℤ pos 2000000000 = stretch_le a (pos 2000000000) (m -ℤ pos h) m side (quotient_low (m -ℤ pos h) side positive) (omega (arith, ints)) (omega (arith, ints)) in
    let least : negsuc 2000000000 ≤ℤ b = stretch_le (negsuc 2000000000) b (m -ℤ pos 1) ((m +ℤ pos h) -ℤ pos 1) side
    (omega (arith, ints)) (omega (arith, ints)) (quotient_high ((m +ℤ pos h) -ℤ pos 1) side positive) in
    let after = few.0 in
    let near = few.1 in
    (omega (arith, ints), omega (arith, ints))

-- a window as a stretch about its middle
pub window_columns : (c : ℤ) (w h k : ℕ) (s : Fraction) → w ≡ 2 * h → 0 < cell_side k * s.den → (x : ℤ) →
    ((int_div_euclid ((c *ℤ pos s.den) -ℤ pos (h * s.num)) (pos (cell_side k * s.den)) ≤ℤ x) × (x ≤ℤ int_div_euclid (((c *ℤ pos s.den) +ℤ pos (h * s.num)) -ℤ pos 1) (pos (cell_side k * s.den))))
    ↔ ColumnInWindow k x c w s
window_columns c w h k s e positive x =
    let o = open_columns (c *ℤ pos s.den) (h * s.num) (cell_side k * s.den) positive x in
    let f : w * s.num ≡ 2 * (h * s.num) = rw e (omega arith) in (
      λ p. let q = o.0 p in let q0 = q.0 in let q1 = q.1 in (omega (arith, ints), omega (arith, ints)),
      λ p. let p0 = p.0 in let p1 = p.1 in o.1 (omega (arith, ints), omega (arith, ints)),
    )

-- a window up to 4,096 wide meets one to nine columns of a band whose upper end is above the scale
pub window_few : (c : ℤ) (w h k : ℕ) (s : Fraction) → w ≡ 2 * h → 2 ≤ w → w ≤ 4096 → 0 < s.num → s.num < 2 ^ (k + 1) * s.den → 0 < cell_side k * s.den →
    AreUpToNine (int_div_euclid ((c *ℤ pos s.den) -ℤ pos (h * s.num)) (pos (cell_side k * s.den))) (int_div_euclid (((c *ℤ pos s.den) +ℤ pos (h * s.num)) -ℤ pos 1) (pos (cell_side k * s.den)))
window_few c w h k s e some low above below positive =
    let p = pow-add 2 k 1 in
    let q : s.num ≤ 2 * 2 ^ k * s.den = (let r : 2 ^ (k + 1) * s.den ≡ 2 * 2 ^ k * s.den = ap (λ (t : ℕ). t * s.den) (omega arith) in omega arith) in
    let r = mul-le h s.num 2048 (2 * 2 ^ k * s.den) (omega arith) q in
    few_open (c *ℤ pos s.den) (h * s.num) (cell_side k * s.den) positive (mul-lt 0 0 h s.num (omega arith) above) (omega arith)

-- ---- how many cells there are

span_few : (c d : ℤ) (n : ℕ) → c ≤ℤ d → d ≤ℤ (c +ℤ pos n) → count_between c d ≤ n + 1
span_few c d n from until = omega (arith, ints)

-- a rectangle of so many columns and rows
pub cells_few : (cells : Cells) (n : ℕ) → cells.x0 ≤ℤ cells.x1 → cells.x1 ≤ℤ (cells.x0 +ℤ pos n) → cells.y0 ≤ℤ cells.y1 → cells.y1 ≤ℤ (cells.y0 +ℤ pos n) → cell_count cells ≤ (n + 1) * (n + 1)
cells_few cells n a b c d = mul-le (count_between cells.x0 cells.x1) (count_between cells.y0 cells.y1) (n + 1) (n + 1) (span_few cells.x0 cells.x1 n a b) (span_few cells.y0 cells.y1 n c d)

-- the first and the last column that a window meets
first_of : ℤ → ℕ → ℕ → Fraction → ℤ
first_of c h k s = int_div_euclid ((c *ℤ pos s.den) -ℤ pos (h * s.num)) (pos (cell_side k * s.den))

last_of : ℤ → ℕ → ℕ → Fraction → ℤ
last_of c h k s = int_div_euclid (((c *ℤ pos s.den) +ℤ pos (h * s.num)) -ℤ pos 1) (pos (cell_side k * s.den))

halves : (w : ℕ) → w % 2 ≡ 0 → w ≡ 2 * (w / 2)
halves w even = omega arith

side_some : (k : ℕ) (s : Fraction) → 0 < cell_side k * s.den
side_some k s = mul-lt 0 0 (cell_side k) s.den (let p = pow_pos k in omega arith) s.positive

-- the cells of the band of a view's scale that meet the window are those of a rectangle of at most 81 cells
pub few_seen : (v : View) (k : ℕ) → IsInBand (value_of v.scale) k → HasFewCells v k
unfolding first_of last_of
few_seen v k in_band =
    let s = value_of v.scale in
    let side = side_some k s in
    let wide = halves v.w v.even_w in
    let high = halves v.h v.even_h in
    let x = window_few v.cx v.w (v.w / 2) k s wide v.some_w v.low_w v.above in_band.below side in
    let y = window_few v.cy v.h (v.h / 2) k s high v.some_h v.low_h v.above in_band.below side in
    let columns = window_columns v.cx v.w (v.w / 2) k s wide side in
    let rows = window_columns v.cy v.h (v.h / 2) k s high side in
    record {
      cells = record { band = k; x0 = first_of v.cx (v.w / 2) k s; y0 = first_of v.cy (v.h / 2) k s; x1 = last_of v.cx (v.w / 2) k s; y1 = last_of v.cy (v.h / 2) k s };
      are = λ i j. (
        λ among. ((columns i).0 (among.0, among.1), (rows j).0 (among.2, among.3)),
        λ cell. let a = (columns i).1 cell.0 in let b = (rows j).1 cell.1 in (a.0, a.1, b.0, b.1),
      );
      few = cells_few (record { band = k; x0 = first_of v.cx (v.w / 2) k s; y0 = first_of v.cy (v.h / 2) k s; x1 = last_of v.cx (v.w / 2) k s; y1 = last_of v.cy (v.h / 2) k s }) 8 x.0 x.1 y.0 y.1;
    }
