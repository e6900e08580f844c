-- How far the cells of labels lie from the middle of the world.
use Rattle.std.proofs.Common.{◌≡◌, ◌⊎◌, inl, inr, ℕ, suc, ◌+◌, ◌*◌, ◌^◌, ◌<◌, ◌≤◌, arith, ℤ, pos, negsuc, ◌+ℤ◌, ◌*ℤ◌, ◌≤ℤ◌, subst, sym, ap, ◌∙◌}
use Rattle.std.specs.Prelude.{Any}
use Rattle.std.specs.Int.{int_div_euclid}
use Rattle.std.proofs.Math.Nat.{pow-suc}
use Rattle.std.proofs.lemmas.Int.{ints}
use Rattle.std.proofs.lemmas.Nat.{mul-le, pow_pos}
use borrow.Author.Differences.{up, down}
use Rattle.ml_ratio.specs.World.{IsInWorld}
use Rattle.ml_ratio.proofs.lemmas.Rounding.{quotient_low, quotient_high, stretch_le}
use Rattle.ml_cone.specs.Cells.{cell_side, cell_at}
use Rattle.ml_cone.specs.Hull.{hull_of, reach_of, IsLeastReach}
use Rattle.ml_cone.specs.Overlap.{widened}
use Rattle.ml_cone.specs.Plane.{IsBox, IsWideOffset, lowered, raised}
use Rattle.ml_cone.specs.declared.label.BoxPx.{BoxPx}
use Rattle.ml_cone.specs.declared.label.Label.{Label}
use Rattle.ml_grid.specs.Marks.{IsDigit, AreDigits}

-- a mark has a digit for a column between two columns for which it has one
pub digit_between : (a b c : ℤ) → negsuc 2097151 ≤ℤ a → a ≤ℤ c → c ≤ℤ b → b ≤ℤ pos 2097151 → IsDigit c
digit_between a b c f g h i = (omega (arith, ints), omega (arith, ints))

world_bound : (x : ℤ) → IsInWorld x → (up x ≤ 2000000000) × (down x ≤ 2000000000)
world_bound (pos n) h = omega (arith, ints)
world_bound (negsuc n) h = omega (arith, ints)

offset_bound : (u : ℤ) → IsWideOffset u → (up u ≤ 576) × (down u ≤ 576)
offset_bound (pos n) h = omega (arith, ints)
offset_bound (negsuc n) h = omega (arith, ints)

-- a pixel has p units, and a cell 512 pixels
place_digit : (x u : ℤ) (p : ℕ) → 2 ≤ p → IsInWorld x → IsWideOffset u → IsDigit (int_div_euclid (x +ℤ (u *ℤ pos p)) (pos (512 * p)))
place_digit x u p some h k =
    let place : ℤ = x +ℤ (u *ℤ pos p) in
    let q : ℤ = int_div_euclid place (pos (512 * p)) in
    let wide : 0 < 512 * p = omega arith in
    let bx = world_bound x h in
    let bu = offset_bound u k in
    let same : p ≤ p = omega arith in
    let up' = mul-le (up u) p 576 p bu.0 same in
    let down' = mul-le (down u) p 576 p bu.1 same in (
      stretch_le (negsuc 2097151) q place place (512 * p) (omega (arith, ints, up', down')) (omega (arith, ints)) (quotient_high place (512 * p) wide),
      stretch_le q (pos 2097151) place place (512 * p) (quotient_low place (512 * p) wide) (omega (arith, ints)) (omega (arith, ints, up', down')),
    )

column_digit : (x u : ℤ) (k : ℕ) → IsInWorld x → IsWideOffset u → IsDigit (cell_at x u k)
column_digit x u k h w =
    let one : 0 < 2 ^ k = pow_pos k in
    let p : 2 ^ (k + 1) ≡ 2 ^ k * 2 = pow-add-one k in
    let side : cell_side k ≡ 512 * 2 ^ (k + 1) = omega arith in
    subst (λ (s : ℕ). IsDigit (int_div_euclid (x +ℤ (u *ℤ pos (2 ^ (k + 1)))) (pos s))) (sym side) (place_digit x u (2 ^ (k + 1)) (omega arith) h w)
  where
    pow-add-one : (k : ℕ) → 2 ^ (k + 1) ≡ 2 ^ k * 2
    pow-add-one k = let e : 2 ^ (k + 1) ≡ 2 ^ suc k = ap (λ (n : ℕ). 2 ^ n) (let f : k + 1 ≡ suc k = omega arith in f) in e ∙ (let g = pow-suc 2 k in omega (arith, g))

-- no hull lies above the last band
pub hull_low : (a : Label) (k : ℕ) → k < 28 → (hull_of a k).band ≤ 27
unfolding hull_of
hull_low a k h = omega arith

module _ (a : Label) where
  box_of : (side : BoxPx → ℤ) → ((p : BoxPx) → IsBox p.l p.b p.r p.t → IsWideOffset (side (widened a p))) → (n : ℤ) → (n ≡ pos 0) ⊎ Any (λ p. side (widened a p) ≡ n) a.boxes → IsWideOffset n
  box_of side wide n (inl e) = subst IsWideOffset (sym e) (omega (arith, ints), omega (arith, ints))
  box_of side wide n (inr some) =
      let box : IsBox some.1.l some.1.b some.1.r some.1.t = subst (λ (p : BoxPx). IsBox p.l p.b p.r p.t) some.3 (a.good_boxes some.0 some.1 some.2) in
      subst IsWideOffset some.4 (wide some.1 box)

  low_margin : a.margin ≤ 64
  low_margin = a.low_margin

  lower_wide : (u : ℤ) → negsuc 511 ≤ℤ u → u ≤ℤ pos 512 → IsWideOffset (lowered u a.margin)
  lower_wide u h k = let m = low_margin in (omega (arith, ints), omega (arith, ints))

  upper_wide : (u : ℤ) → negsuc 511 ≤ℤ u → u ≤ℤ pos 512 → IsWideOffset (raised u a.margin)
  upper_wide u h k = let m = low_margin in (omega (arith, ints), omega (arith, ints))

  -- the cells of a label's hull have digits
  pub hull_digits : IsLeastReach a (reach_of a) → (k : ℕ) → AreDigits (hull_of a k)
  unfolding hull_of
  hull_digits least k =
      let l = box_of (λ p. p.l) (λ p h. lower_wide p.l h.0.0.0 h.0.0.1) (reach_of a).l least.l_is in
      let b = box_of (λ p. p.b) (λ p h. lower_wide p.b h.1.0.0 h.1.0.1) (reach_of a).b least.b_is in
      let r = box_of (λ p. p.r) (λ p h. upper_wide p.r h.0.1.0 h.0.1.1) (reach_of a).r least.r_is in
      let t = box_of (λ p. p.t) (λ p h. upper_wide p.t h.1.1.0 h.1.1.1) (reach_of a).t least.t_is in (
        (column_digit a.x (reach_of a).l k a.world_x l).0,
        (column_digit a.x (reach_of a).r k a.world_x r).1,
        (column_digit a.y (reach_of a).b k a.world_y b).0,
        (column_digit a.y (reach_of a).t k a.world_y t).1,
      )
