-- Floors, the reach of a label, and the cells of its hull.
use Rattle.std.proofs.Common.{◌≡◌, ◌⊎◌, inl, inr, ⊎_elim, refl, sym, ◌∙◌, ℕ, suc, ◌+◌, ◌*◌, ◌^◌, ◌<◌, ◌≤◌, arith, List, [], ◌∷◌, ℤ, pos, negsuc, ◌+ℤ◌, ◌*ℤ◌, ◌≤ℤ◌}
use Rattle.std.specs.Prelude.{All, Any, int_lt}
use Rattle.std.specs.List.{fold}
use Rattle.std.specs.Int.{int_div_euclid, int_min, int_max}
use Rattle.std.proofs.lemmas.Bool.{cases_cond}
use Rattle.std.proofs.lemmas.Int.{ints, clamps}
use Rattle.std.proofs.lemmas.List.Elements.{All-nil, All-cons, All-head, All-tail, All-weaker}
use Rattle.std.proofs.lemmas.Nat.{pow_pos, pow-add}
use Rattle.ml_ratio.proofs.lemmas.Rounding.{scaled_le, sum_scaled, stretch_le, quotient_low, quotient_high}
use Rattle.ml_cone.specs.Plane.{IsBox, lowered, raised}
use Rattle.ml_cone.specs.Overlap.{widened}
use Rattle.ml_cone.specs.Cells.{cell_side, cell_at}
use Rattle.ml_cone.specs.Hull.{join, no_reach, reach_of, hull_of, AreFew, Holds, IsStretch, IsExtent, IsLeastReach}
use Rattle.ml_cone.specs.declared.label.BoxPx.{BoxPx}
use Rattle.ml_cone.specs.declared.label.Label.{Label}

-- ---- the reach

-- a box that holds another holds all that the other holds
pub Holds-trans : (a p q : BoxPx) → Holds a p → Holds p q → Holds a q
Holds-trans a p q h k = record {
  l = let x = h.l in let y = k.l in omega (arith, ints);
  b = let x = h.b in let y = k.b in omega (arith, ints);
  r = let x = h.r in let y = k.r in omega (arith, ints);
  t = let x = h.t in let y = k.t in omega (arith, ints);
}

Holds-refl : (a : BoxPx) → Holds a a
Holds-refl a = record { l = omega (arith, ints); b = omega (arith, ints); r = omega (arith, ints); t = omega (arith, ints) }

least_is : (x y : ℤ) → (int_min x y ≤ℤ x) × (int_min x y ≤ℤ y)
least_is x y = (omega (arith, ints, clamps), omega (arith, ints, clamps))

greatest_is : (x y : ℤ) → (x ≤ℤ int_max x y) × (y ≤ℤ int_max x y)
greatest_is x y = (omega (arith, ints, clamps), omega (arith, ints, clamps))

-- the least box that holds two boxes holds the first of them
pub join_holds_first : (a p : BoxPx) → Holds (join a p) a
join_holds_first a p = record { l = (least_is a.l p.l).0; b = (least_is a.b p.b).0; r = (greatest_is a.r p.r).0; t = (greatest_is a.t p.t).0 }

-- it holds the second, too
pub join_holds_second : (a p : BoxPx) → Holds (join a p) p
join_holds_second a p = record { l = (least_is a.l p.l).1; b = (least_is a.b p.b).1; r = (greatest_is a.r p.r).1; t = (greatest_is a.t p.t).1 }

fold_holds_first : (w : BoxPx → BoxPx) (a : BoxPx) (boxes : List BoxPx) → Holds (fold (λ all p. join all (w p)) a boxes) a
fold_holds_first w a [] = Holds-refl a
fold_holds_first w a (p ∷ rest) = Holds-trans (fold (λ all q. join all (w q)) (join a (w p)) rest) (join a (w p)) a (fold_holds_first w (join a (w p)) rest) (join_holds_first a (w p))

fold_holds_all : (w : BoxPx → BoxPx) (a : BoxPx) (boxes : List BoxPx) → All (λ p. Holds (fold (λ all q. join all (w q)) a boxes) (w p)) boxes
fold_holds_all w a [] = All-nil (λ p. Holds (fold (λ all q. join all (w q)) a []) (w p))
fold_holds_all w a (p ∷ rest) =
    All-cons (λ q. Holds (fold (λ all o. join all (w o)) (join a (w p)) rest) (w q)) p rest
    (Holds-trans (fold (λ all q. join all (w q)) (join a (w p)) rest) (join a (w p)) (w p) (fold_holds_first w (join a (w p)) rest) (join_holds_second a (w p)))
    (fold_holds_all w (join a (w p)) rest)

-- a side over 0 that is joined with one of up to 576 pixels to either hand is still a side over 0, as far at most
pub stretch_join : (l r k t : ℤ) → IsStretch l r → negsuc 575 ≤ℤ k → t ≤ℤ pos 576 → IsStretch (int_min l k) (int_max r t)
stretch_join l r k t h low high =
    let h0 = h.from in let h1 = h.left in let h2 = h.right in let h3 = h.until in
    record { from = omega (arith, ints, clamps); left = omega (arith, ints, clamps); right = omega (arith, ints, clamps); until = omega (arith, ints, clamps) }

low_enough : (u : ℤ) (g : ℕ) → negsuc 511 ≤ℤ u → g ≤ 64 → negsuc 575 ≤ℤ lowered u g
low_enough u g h k = omega (arith, ints)

high_enough : (u : ℤ) (g : ℕ) → u ≤ℤ pos 512 → g ≤ 64 → raised u g ≤ℤ pos 576
high_enough u g h k = omega (arith, ints)

join_extent : (c : Label) (a p : BoxPx) → IsExtent a → IsBox p.l p.b p.r p.t → IsExtent (join a (widened c p))
join_extent c a p h k = record {
  wide = stretch_join a.l a.r (lowered p.l c.margin) (raised p.r c.margin) h.wide (low_enough p.l c.margin k.0.0.0 c.low_margin) (high_enough p.r c.margin k.0.1.1 c.low_margin);
  high = stretch_join a.b a.t (lowered p.b c.margin) (raised p.t c.margin) h.high (low_enough p.b c.margin k.1.0.0 c.low_margin) (high_enough p.t c.margin k.1.1.1 c.low_margin);
}

fold_extent : (c : Label) (a : BoxPx) (boxes : List BoxPx) → IsExtent a → All (λ p. IsBox p.l p.b p.r p.t) boxes → IsExtent (fold (λ all p. join all (widened c p)) a boxes)
fold_extent c a [] h all = h
fold_extent c a (p ∷ rest) h all =
    fold_extent c (join a (widened c p)) rest (join_extent c a p h (All-head (λ (q : BoxPx). IsBox q.l q.b q.r q.t) p rest all)) (All-tail (λ (q : BoxPx). IsBox q.l q.b q.r q.t) p rest all)

-- the anchor alone reaches over 0 to each side, by no pixel
pub no_extent : IsExtent no_reach
no_extent = record {
  wide = record { from = omega (arith, ints); left = omega (arith, ints); right = omega (arith, ints); until = omega (arith, ints) };
  high = record { from = omega (arith, ints); left = omega (arith, ints); right = omega (arith, ints); until = omega (arith, ints) };
}

-- the reach of a label is bounded and holds the anchor
pub reach_extent : (a : Label) → IsExtent (reach_of a)
unfolding reach_of
reach_extent a = fold_extent a no_reach a.boxes no_extent a.good_boxes

-- it holds each widened box
pub reach_holds : (a : Label) → All (λ p. Holds (reach_of a) (widened a p)) a.boxes
unfolding reach_of
reach_holds a = fold_holds_all (widened a) no_reach a.boxes

-- a side that a join takes from one of its two is, in the end, the first one's or that of some box
fold_side : (side : BoxPx → ℤ) → ((a p : BoxPx) → (side (join a p) ≡ side a) ⊎ (side (join a p) ≡ side p)) → (w : BoxPx → BoxPx) (a : BoxPx) (boxes : List BoxPx) →
    (side (fold (λ all p. join all (w p)) a boxes) ≡ side a) ⊎ Any (λ p. side (w p) ≡ side (fold (λ all q. join all (w q)) a boxes)) boxes
fold_side side of_either w a [] = inl refl
fold_side side of_either w a (p ∷ rest) =
    ⊎_elim
    (λ same. ⊎_elim (λ old. inl (same ∙ old)) (λ new. inr (0, p, omega arith, refl, sym (same ∙ new))) (of_either a (w p)))
    (λ there. inr (suc there.0, there.1, omega (arith, there.2), there.3, there.4))
    (fold_side side of_either w (join a (w p)) rest)

least_is_one : (x y : ℤ) → (int_min x y ≡ x) ⊎ (int_min x y ≡ y)
least_is_one x y = ⊎_elim inr inl (cases_cond (int_lt y x) y x (int_min x y) refl)

greatest_is_one : (x y : ℤ) → (int_max x y ≡ x) ⊎ (int_max x y ≡ y)
greatest_is_one x y = cases_cond (int_lt y x) x y (int_max x y) refl

-- the reach is the least box about the anchor and all widened boxes
pub reach_is_least : (a : Label) → IsLeastReach a (reach_of a)
unfolding reach_of
reach_is_least a = record {
  anchor = fold_holds_first (widened a) no_reach a.boxes;
  boxes = fold_holds_all (widened a) no_reach a.boxes;
  l_is = fold_side (λ p. p.l) (λ c p. least_is_one c.l p.l) (widened a) no_reach a.boxes;
  b_is = fold_side (λ p. p.b) (λ c p. least_is_one c.b p.b) (widened a) no_reach a.boxes;
  r_is = fold_side (λ p. p.r) (λ c p. greatest_is_one c.r p.r) (widened a) no_reach a.boxes;
  t_is = fold_side (λ p. p.t) (λ c p. greatest_is_one c.t p.t) (widened a) no_reach a.boxes;
}

less_outwards : (u : ℤ) (g : ℕ) → lowered u g ≤ℤ u
less_outwards u g = omega (arith, ints)

more_outwards : (u : ℤ) (g : ℕ) → u ≤ℤ raised u g
more_outwards u g = omega (arith, ints)

-- a widened box holds the plain one
widened_holds : (a : Label) (p : BoxPx) → Holds (widened a p) p
widened_holds a p = record { l = less_outwards p.l a.margin; b = less_outwards p.b a.margin; r = more_outwards p.r a.margin; t = more_outwards p.t a.margin }

-- and so the reach holds each plain box
pub reach_holds_plain : (a : Label) → All (Holds (reach_of a)) a.boxes
reach_holds_plain a =
    All-weaker (λ p. Holds (reach_of a) (widened a p)) (Holds (reach_of a)) (λ p h. Holds-trans (reach_of a) (widened a p) p h (widened_holds a p)) a.boxes (reach_holds a)

-- ---- columns

-- the side of a cell is above 0
pub side_pos : (k : ℕ) → 0 < cell_side k
side_pos k = omega (arith, pow_pos k)

pixel_is : (k : ℕ) → 2 ^ (k + 1) ≡ 2 * 2 ^ k
pixel_is k = let e = pow-add 2 k 1 in omega arith

-- the reach of a label takes one to four columns
few_floors : (x l r : ℤ) (side pixel : ℕ) → 0 < side → pixel * 1152 ≤ 3 * side → IsStretch l r →
    AreFew (int_div_euclid (x +ℤ (l *ℤ pos pixel)) (pos side)) (int_div_euclid (x +ℤ (r *ℤ pos pixel)) (pos side))
few_floors x l r side pixel h e k =
    let k0 = k.from in let k1 = k.left in let k2 = k.right in let k3 = k.until in
    let over : l ≤ℤ r = omega (arith, ints) in
    let near : r ≤ℤ (l +ℤ pos 1152) = omega (arith, ints) in
    let rise = scaled_le l r pixel over in
    let more = scaled_le r (l +ℤ pos 1152) pixel near in
    let low = quotient_low (x +ℤ (l *ℤ pos pixel)) side h in
    let high = quotient_high (x +ℤ (l *ℤ pos pixel)) side h in
    let from = quotient_low (x +ℤ (r *ℤ pos pixel)) side h in
    let until = quotient_high (x +ℤ (r *ℤ pos pixel)) side h in
    let a = int_div_euclid (x +ℤ (l *ℤ pos pixel)) (pos side) in
    let b = int_div_euclid (x +ℤ (r *ℤ pos pixel)) (pos side) in
    let e1 = sum_scaled l (pos 1152) pixel in
    let e2 = sum_scaled a (pos 1) side in
    let e3 = sum_scaled (a +ℤ pos 3) (pos 1) side in
    let e4 = sum_scaled a (pos 3) side in (
      stretch_le a b (x +ℤ (l *ℤ pos pixel)) (x +ℤ (r *ℤ pos pixel)) side low (omega (arith, ints)) until,
      stretch_le b (a +ℤ pos 3) (x +ℤ (r *ℤ pos pixel)) (x +ℤ (r *ℤ pos pixel)) side from (omega (arith, ints)) (omega (arith, ints)),
    )

-- a side over 0, up to 576 pixels to either hand, takes one to four columns of each band
pub few_columns : (x l r : ℤ) (k : ℕ) → IsStretch l r → AreFew (cell_at x l k) (cell_at x r k)
few_columns x l r k h = few_floors x l r (cell_side k) (2 ^ (k + 1)) (side_pos k) (let e = pixel_is k in omega arith) h

-- so has its hull, both ways
pub hulls_are_few : (a : Label) (k : ℕ) → AreFew (hull_of a k).x0 (hull_of a k).x1 × AreFew (hull_of a k).y0 (hull_of a k).y1
unfolding hull_of
hulls_are_few a k =
    (few_columns a.x (reach_of a).l (reach_of a).r k (reach_extent a).wide, few_columns a.y (reach_of a).b (reach_of a).t k (reach_extent a).high)
