-- Where the anchors of labels lie that a label overlaps in a band.
use Rattle.std.proofs.Common.{◌≡◌, ap, subst, sym, inl, inr, ◌⊎◌, ℕ, zero, suc, ◌+◌, ◌*◌, ◌^◌, ◌<◌, ◌≤◌, arith, ℤ, pos, negsuc, ◌+ℤ◌, ◌-ℤ◌, ◌*ℤ◌, ◌<ℤ◌, ◌≤ℤ◌, lit<}
use Rattle.std.specs.Int.{int_div_euclid}
use Rattle.std.proofs.lemmas.Bool.{cases_lt}
use Rattle.std.proofs.lemmas.Int.{ints}
use Rattle.std.proofs.lemmas.Nat.{mul-le, pow-add}
use Rattle.std.proofs.Math.Nat.{pow-le-pow_right}
use Rattle.ml_ratio.specs.Fraction.{Fraction, value_of, IsAtMost}
use Rattle.ml_ratio.specs.Band.{MeetsBand}
use Rattle.ml_ratio.proofs.lemmas.Fractions.{at_most_trans}
use Rattle.ml_cone.specs.Plane.{IsBelow, SidesMeet, edge}
use Rattle.ml_cone.specs.Cells.{cell_side, column_of, cell_at}
use Rattle.ml_cone.specs.Hull.{Holds, IsStretch, IsExtent, area_of, join, reach_of, hull_of}
use Rattle.ml_cone.specs.Overlap.{widened, BoxesOverlap, Overlap}
use Rattle.ml_cone.specs.Outline.{OverlapIn, IsWithin, IsKeptAmong}
use Rattle.ml_cone.specs.Cell.{IsLastBand}
use Rattle.ml_cone.specs.declared.cells.Cells.{Cells}
use Rattle.ml_cone.specs.declared.label.BoxPx.{BoxPx}
use Rattle.ml_cone.specs.declared.label.Label.{Label}
use Rattle.ml_cone.specs.declared.outline.Outline.{Outline}
use Rattle.ml_ratio.proofs.lemmas.Rounding.{scaled_le, unscaled_lt, sum_scaled, stretch_le, quotient_low, quotient_high}
use Rattle.ml_cone.proofs.Hulls.{Holds-trans, stretch_join, reach_extent, reach_holds, side_pos}
use Rattle.ml_cone.proofs.Meetings.{mul_twice, left_grows, right_grows, at_place, cells_of_overlap, meets_here}

-- a place that is not below another lies in no column before its
floor_mono : (t v : ℤ) (side : ℕ) → 0 < side → t ≤ℤ v → int_div_euclid t (pos side) ≤ℤ int_div_euclid v (pos side)
floor_mono t v side h le = stretch_le (int_div_euclid t (pos side)) (int_div_euclid v (pos side)) t v side (quotient_low t side h) le (quotient_high v side h)

-- (l - r) * n is l * n - r * n
pub difference_times : (l r : ℤ) (n : ℕ) → (l *ℤ pos n) ≡ (((l -ℤ r) *ℤ pos n) +ℤ (r *ℤ pos n))
difference_times l r n =
    let k : ((l -ℤ r) +ℤ r) ≡ l = omega (arith, ints) in
    let e : (((l -ℤ r) +ℤ r) *ℤ pos n) ≡ (l *ℤ pos n) = ap (λ (z : ℤ). z *ℤ pos n) k in
    let d = sum_scaled (l -ℤ r) r n in
    omega (arith, ints)

-- a side that begins at `from` or later begins below the end, at `to` or before, of one about y: so y is not far below x
near_below : (x y l r from to : ℤ) (p : ℕ) (s : Fraction) → s.num ≤ p * s.den → from ≤ℤ l → r ≤ℤ to → (from -ℤ to) ≤ℤ pos 0 → edge x l s <ℤ edge y r s → (x +ℤ ((from -ℤ to) *ℤ pos p)) ≤ℤ y
near_below x y l r from to p s below first last left less =
    let u : ℤ = from -ℤ to in
    let le : u ≤ℤ (l -ℤ r) = omega (arith, ints) in
    let m = scaled_le u (l -ℤ r) s.num le in
    let e = difference_times l r s.num in
    let g = left_grows u s.num (p * s.den) left below in
    let t = mul_twice u p s.den in
    let d = sum_scaled x (u *ℤ pos p) s.den in
    let h : (x +ℤ (u *ℤ pos p)) <ℤ y = unscaled_lt (x +ℤ (u *ℤ pos p)) y s.den (omega (arith, ints)) in
    omega (arith, ints)

-- and a side that ends at `to` or before ends above the beginning, at `from` or later, of one about y: so y is not far above x
near_above : (x y l r from to : ℤ) (p : ℕ) (s : Fraction) → s.num ≤ p * s.den → from ≤ℤ l → r ≤ℤ to → pos 0 ≤ℤ (to -ℤ from) → edge y l s <ℤ edge x r s → y ≤ℤ (x +ℤ ((to -ℤ from) *ℤ pos p))
near_above x y l r from to p s below first last right less =
    let v : ℤ = to -ℤ from in
    let le : (r -ℤ l) ≤ℤ v = omega (arith, ints) in
    let m = scaled_le (r -ℤ l) v s.num le in
    let e = difference_times r l s.num in
    let g = right_grows v s.num (p * s.den) right below in
    let t = mul_twice v p s.den in
    let d = sum_scaled x (v *ℤ pos p) s.den in
    let h : y <ℤ (x +ℤ (v *ℤ pos p)) = unscaled_lt y (x +ℤ (v *ℤ pos p)) s.den (omega (arith, ints)) in
    omega (arith, ints)

-- the anchor's column is among those of a stretch
anchor_column : (x l r : ℤ) (k : ℕ) → IsStretch l r → (cell_at x l k ≤ℤ int_div_euclid x (pos (cell_side k))) × (int_div_euclid x (pos (cell_side k)) ≤ℤ cell_at x r k)
anchor_column x l r k h =
    let p : ℕ = 2 ^ (k + 1) in
    let down = scaled_le l (pos 0) p h.left in
    let up = scaled_le (pos 0) r p h.right in (
      floor_mono (x +ℤ (l *ℤ pos p)) x (cell_side k) (side_pos k) (omega (arith, ints)),
      floor_mono x (x +ℤ (r *ℤ pos p)) (cell_side k) (side_pos k) (omega (arith, ints)),
    )

-- a stretch of so many pixels takes one to four columns of cells whose sides are a third of it at least
pub few_about : (x u v : ℤ) (k j : ℕ) → u ≤ℤ v → ((v -ℤ u) *ℤ pos (2 ^ (k + 1))) ≤ℤ pos (3 * cell_side j) →
    (column_of x u k j ≤ℤ column_of x v k j) × (column_of x v k j ≤ℤ (column_of x u k j +ℤ pos 3))
few_about x u v k j le few =
    let p : ℕ = 2 ^ (k + 1) in
    let side : ℕ = cell_side j in
    let s = side_pos j in
    let a : ℤ = column_of x u k j in
    let b : ℤ = column_of x v k j in
    let rise = scaled_le u v p le in
    let gap = difference_times v u p in
    let low = quotient_low (x +ℤ (u *ℤ pos p)) side s in
    let high = quotient_high (x +ℤ (u *ℤ pos p)) side s in
    let from = quotient_low (x +ℤ (v *ℤ pos p)) side s in
    let until = quotient_high (x +ℤ (v *ℤ pos p)) side s in
    let e2 = sum_scaled a (pos 1) side in
    let e3 = sum_scaled (a +ℤ pos 3) (pos 1) side in
    let e4 = sum_scaled a (pos 3) side in (
      stretch_le a b (x +ℤ (u *ℤ pos p)) (x +ℤ (v *ℤ pos p)) side low (omega (arith, ints)) until,
      stretch_le b (a +ℤ pos 3) (x +ℤ (v *ℤ pos p)) (x +ℤ (v *ℤ pos p)) side from (omega (arith, ints)) (omega (arith, ints)),
    )

-- the column of a label's anchor is among those of the area, where sides of both labels meet
column_about : (x y l r m t : ℤ) (from to : ℤ) (first last : ℤ) (k j : ℕ) (s : Fraction) → s.num < 2 ^ (k + 1) * s.den →
    IsStretch from to → IsStretch first last → from ≤ℤ l → r ≤ℤ to → first ≤ℤ m → t ≤ℤ last → SidesMeet x l r y m t s →
    (column_of x (from -ℤ last) k j ≤ℤ int_div_euclid y (pos (cell_side j))) × (int_div_euclid y (pos (cell_side j)) ≤ℤ column_of x (to -ℤ first) k j)
unfolding IsBelow
column_about x y l r m t from to first last k j s below own other h0 h1 h2 h3 meet =
    let o0 = own.left in let o1 = own.right in let q0 = other.left in let q1 = other.right in
    let p : ℕ = 2 ^ (k + 1) in
    let low = near_below x y l t from last p s (omega arith) h0 h3 (omega (arith, ints)) meet.0 in
    let high = near_above x y m r first to p s (omega arith) h2 h1 (omega (arith, ints)) meet.1 in (
      floor_mono (x +ℤ ((from -ℤ last) *ℤ pos p)) y (cell_side j) (side_pos j) low,
      floor_mono y (x +ℤ ((to -ℤ first) *ℤ pos p)) (cell_side j) (side_pos j) high,
    )

-- the cells of band j in which an area about a label's anchor lies, with a pixel as large as at the upper end of band k
abbrev pub about : Label → BoxPx → ℕ → ℕ → Cells
about a area k j = record { band = j; x0 = column_of a.x area.l k j; y0 = column_of a.y area.b k j; x1 = column_of a.x area.r k j; y1 = column_of a.y area.t k j }

-- what begins in a band has begun in each band above
pub begins_more : (num den k m : ℕ) → k ≤ m → num < 2 ^ (k + 1) * den → num < 2 ^ (m + 1) * den
begins_more num den k m le h =
    let p : 2 ^ (k + 1) ≤ 2 ^ (m + 1) = pow-le-pow_right (omega arith) (omega arith) in
    let q = mul-le (2 ^ (k + 1)) den (2 ^ (m + 1)) den p (omega arith) in
    omega arith

-- a label that begins in a band up to j and is overlapped in band k, from j on, is kept in band j
meets_lower : (o : Outline) (a b : Label) (k j : ℕ) → o.low ≤ j → j ≤ k → IsWithin o b → OverlapIn a b k → MeetsBand j (value_of b.min) (value_of b.max)
meets_lower o a b k j from upto within over = record {
  begins =
      let p : 2 ^ (o.low + 1) ≤ 2 ^ (j + 1) = pow-le-pow_right (omega arith) (omega arith) in
      let q = mul-le (2 ^ (o.low + 1)) b.min.den (2 ^ (j + 1)) b.min.den p (omega arith) in
      let h = within.begins in
      omega arith;
  reaches = λ some.
      let s : Fraction = over.scale in
      let low : Fraction = record { num = 2 ^ j; den = 1; positive = lit< tt } in
      let p : 2 ^ j ≤ 2 ^ k = pow-le-pow_right (omega arith) upto in
      let q = mul-le (2 ^ j) s.den (2 ^ k) s.den p (omega arith) in
      let h = over.in_band.from (omega arith) in
      let one : IsAtMost low s = omega arith in
      let two' = at_most_trans low s (value_of b.max) one over.lasts in
      omega arith;
}

-- a label's range has a last band, up to any behind which it does not reach
last_below : (a : Label) (k : ℕ) → k < 28 → (k < 27 → a.max.num < 2 ^ (k + 1) * a.max.den) → (m : ℕ) × IsLastBand a m
last_below a zero low ends = (0, record { low = low; reaches = λ some. absurd (omega arith); ends = ends })
last_below a (suc k) low ends =
    elim (cases_lt a.max.num (2 ^ (k + 1) * a.max.den)) [
      | inl less ↦ last_below a k (omega arith) (λ h. less)
      | inr more ↦
          let e : suc k ≡ k + 1 = omega arith in
          (suc k, record { low = low; reaches = λ some. subst (λ (n : ℕ). 2 ^ n * a.max.den ≤ a.max.num) (sym e) more; ends = ends })
    ]

-- a label that begins in a band up to j is kept in band j, where no range ends before it
meets_early : (o : Outline) (b : Label) (j : ℕ) → o.low ≤ j → j ≤ o.first_end → IsWithin o b → MeetsBand j (value_of b.min) (value_of b.max)
meets_early o b j from upto within = record {
  begins = begins_more b.min.num b.min.den o.low j from within.begins;
  reaches = λ some.
      let last = last_below b 27 (omega arith) (λ less. absurd (omega arith)) in
      let m : ℕ = last.0 in
      let after : o.first_end ≤ m = within.ends m last.1 in
      let p : 2 ^ j ≤ 2 ^ m = pow-le-pow_right (omega arith) (omega arith) in
      let q = mul-le (2 ^ j) b.max.den (2 ^ m) b.max.den p (omega arith) in
      let h = last.1.reaches (omega arith) in
      omega arith;
}

-- a label that is overlapped in band k is kept in band j, up to which all have begun, if that is none behind k or none behind the first in which a range ends
meets_finer : (o : Outline) (a b : Label) (k j : ℕ) → o.low ≤ j → (j ≤ k) ⊎ (j ≤ o.first_end) → IsWithin o b → OverlapIn a b k → MeetsBand j (value_of b.min) (value_of b.max)
meets_finer o a b k j from upto within over = elim upto [ inl low ↦ meets_lower o a b k j from low within over | inr early ↦ meets_early o b j from early within ]

-- the label is kept in a cell of the area about one that overlaps it in a band up to m, from j on or where no range ends before j
pub kept_about : (o : Outline) (a b : Label) (k m j : ℕ) → o.low ≤ j → j < 28 → (j ≤ k) ⊎ (j ≤ o.first_end) →
    k ≤ m → IsWithin o b → OverlapIn a b k → IsKeptAmong (about a (area_of (reach_of a) o.reach) m j) b
unfolding Overlap BoxesOverlap hull_of
kept_about o a b k m j from few upto under within over =
    let any = over.over in
    let p = any.1 in
    let other = any.4 in
    let q = other.1 in
    let boxes = other.4 in
    let wide_p = widened a p in
    let wide_q = widened b q in
    let hp : Holds (reach_of a) wide_p = at_place (λ o. Holds (reach_of a) (widened a o)) a.boxes any.0 p (reach_holds a) any.2 any.3 in
    let hb : Holds (reach_of b) wide_q = at_place (λ o. Holds (reach_of b) (widened b o)) b.boxes other.0 q (reach_holds b) other.2 other.3 in
    let hq = Holds-trans o.reach (reach_of b) wide_q within.reach hb in
    let ea = reach_extent a in
    let eb = reach_extent b in
    let s : Fraction = over.scale in
    let below = begins_more s.num s.den k m under over.in_band.below in
    let xs = column_about a.x b.x wide_p.l wide_p.r wide_q.l wide_q.r (reach_of a).l (reach_of a).r o.reach.l o.reach.r m j s below ea.wide o.extent.wide hp.l hp.r hq.l hq.r boxes.0 in
    let ys = column_about a.y b.y wide_p.b wide_p.t wide_q.b wide_q.t (reach_of a).b (reach_of a).t o.reach.b o.reach.t m j s below ea.high o.extent.high hp.b hp.t hq.b hq.t boxes.1 in
    let hx = anchor_column b.x (reach_of b).l (reach_of b).r j eb.wide in
    let hy = anchor_column b.y (reach_of b).b (reach_of b).t j eb.high in
    record {
      x = int_div_euclid b.x (pos (cell_side j));
      y = int_div_euclid b.y (pos (cell_side j));
      among = (xs.0, xs.1, ys.0, ys.1);
      kept = record { low = few; meets = meets_finer o a b k j from upto within over; among = (hx.0, hx.1, hy.0, hy.1) };
    }

-- and in one of the label's hull
pub kept_in_hull : (a b : Label) (k : ℕ) → OverlapIn a b k → IsKeptAmong (hull_of a k) b
unfolding hull_of
kept_in_hull a b k over =
    let cell = cells_of_overlap a b k over.scale over.in_band.below over.over in
    record {
      x = cell.0;
      y = cell.1;
      among = cell.2;
      kept = record { low = over.low; meets = meets_here b over.scale k over.begins over.lasts over.in_band; among = cell.3 };
    }

-- the least box that holds two that reach over 0 does so too
pub extent_join : (a p : BoxPx) → IsExtent a → IsExtent p → IsExtent (join a p)
extent_join a p h k =
    let w = k.wide in let t = k.high in
    let w0 = w.from in let w1 = w.until in let t0 = t.from in let t1 = t.until in
    record { wide = stretch_join a.l a.r p.l p.r h.wide w0 w1; high = stretch_join a.b a.t p.b p.t h.high t0 t1 }

-- the area has its left side left of its right
pub wide_area : (a p : BoxPx) → IsExtent a → IsExtent p → (area_of a p).l ≤ℤ (area_of a p).r
wide_area a p h k =
    let a0 = h.wide.left in let a1 = h.wide.right in let p0 = k.wide.left in let p1 = k.wide.right in
    omega (arith, ints)

-- a side that is narrow enough to go n bands down takes few cells of a band that is no further down
pub finer_few : (w : ℤ) (n k j : ℕ) → k ≤ j + n → (w *ℤ pos (2 ^ (n + 1))) ≤ℤ pos 2048 → (w *ℤ pos (2 ^ (k + 1))) ≤ℤ pos (3 * cell_side j)
finer_few (pos u) n k j le narrow =
    let p : 2 ^ (k + 1) ≤ 2 ^ (j + (n + 1)) = pow-le-pow_right (omega arith) (omega arith) in
    let e = pow-add 2 j (n + 1) in
    let q = mul-le u (2 ^ (k + 1)) u (2 ^ (j + (n + 1))) (omega arith) p in
    let few : u * 2 ^ (n + 1) ≤ 2048 = omega (arith, ints) in
    let m = mul-le (u * 2 ^ (n + 1)) (2 ^ j) 2048 (2 ^ j) few (omega arith) in
    let f : u * (2 ^ j * 2 ^ (n + 1)) ≡ u * 2 ^ (n + 1) * 2 ^ j = omega arith in
    let g : u * 2 ^ (j + (n + 1)) ≡ u * (2 ^ j * 2 ^ (n + 1)) = ap (λ (t : ℕ). u * t) e in
    omega (arith, ints)
finer_few (negsuc u) n k j le narrow = let m = scaled_le (negsuc u) (pos 0) (2 ^ (k + 1)) (omega (arith, ints)) in omega (arith, ints)

-- the exponent of the greatest power of two up to a quotient is one
power_once : (j k n d : ℕ) → j < k → n < 2 ^ (j + 1) * d → 2 ^ k * d ≤ n → ⊥
power_once j k n d less below from =
    let p : 2 ^ (j + 1) ≤ 2 ^ k = pow-le-pow_right (omega arith) (omega arith) in
    let m = mul-le (2 ^ (j + 1)) d (2 ^ k) d p (omega arith) in
    omega arith

-- a label has one last band
pub one_last : (a : Label) (j k : ℕ) → IsLastBand a j → IsLastBand a k → j ≡ k
one_last a j k one other =
    elim (cases_lt j k) [
      | inl less ↦ absurd (let low = other.low in power_once j k a.max.num a.max.den less (one.ends (omega arith)) (other.reaches (omega arith)))
      | inr more ↦
          elim (cases_lt k j) [
            | inl less ↦ absurd (let low = one.low in power_once k j a.max.num a.max.den less (other.ends (omega arith)) (one.reaches (omega arith)))
            | inr same ↦ omega arith
          ]
    ]
