-- Where the hulls of labels meet one another and a window.
use Rattle.std.proofs.Common.{◌≡◌, refl, sym, ap, subst, lit<, ℕ, suc, ◌+◌, ◌*◌, ◌^◌, ◌<◌, ◌≤◌, arith, List, length, slice_index_or, ℤ, pos, negsuc, ◌+ℤ◌, ◌-ℤ◌, ◌*ℤ◌, ◌<ℤ◌, ◌≤ℤ◌}
use Rattle.std.specs.Prelude.{All}
use Rattle.std.specs.Int.{int_div_euclid, int_max}
use Rattle.std.proofs.lemmas.Int.{ints, clamps, by_lt_z}
use Rattle.std.proofs.lemmas.List.Elements.{All-weaker}
use Rattle.std.proofs.lemmas.Nat.{mul-le, mul-lt}
use borrow.Author.Differences.{product_is}
use Rattle.ml_ratio.specs.Fraction.{Fraction, value_of, IsLess, IsAtMost}
use Rattle.ml_ratio.specs.Band.{IsInBand, MeetsBand}
use Rattle.ml_ratio.proofs.lemmas.Bands.{has_band}
use Rattle.ml_ratio.proofs.lemmas.Fractions.{less_is_at_most, at_most_trans, at_most_less, less_at_most, less_trans, middle, middle_above, middle_below}
use Rattle.ml_cone.specs.Plane.{IsBelow, SidesMeet, SideInWindow, edge}
use Rattle.ml_cone.specs.Shown.{BoxInView, IsInView}
use Rattle.ml_cone.specs.declared.view.View.{View}
use Rattle.ml_cone.specs.Cells.{cell_side, cell_at, SideInColumns, IsAmongCells}
use Rattle.ml_cone.specs.Cell.{SharedCell, BoundCell, SeenCell, ColumnInWindow, IsLastBand}
use Rattle.ml_cone.specs.Hull.{reach_of, hull_of, BoxInCells, HoldLabel, Holds, IsStretch}
use Rattle.ml_cone.specs.Overlap.{widened, BoxesOverlap, Overlap}
use Rattle.ml_cone.specs.Rivals.{AreRivals}
use Rattle.ml_cone.specs.Outline.{RivalBand, BoundBand, LastCell}
use Rattle.ml_cone.specs.Choice.{IsEnd, CoversFrom}
use Rattle.std.proofs.Common.{inl, inr}
use Rattle.std.proofs.lemmas.Bool.{cases_lt}
use Rattle.ml_cone.specs.declared.label.BoxPx.{BoxPx}
use Rattle.ml_cone.specs.declared.label.Label.{Label}
use Rattle.ml_ratio.proofs.lemmas.Rounding.{scaled_le, sum_scaled, stretch_le, quotient_low, quotient_high}
use Rattle.ml_cone.proofs.Hulls.{few_columns, reach_extent, reach_holds, reach_holds_plain, side_pos}

-- ---- the hull holds what the label covers

-- a number that is scaled twice is scaled by the product
pub mul_twice : (c : ℤ) (m n : ℕ) → ((c *ℤ pos m) *ℤ pos n) ≡ (c *ℤ pos (m * n))
mul_twice c m n =
    let e = ap (λ (t : ℕ). t * n) (product_is c (pos m)).0 in
    let f = ap (λ (t : ℕ). t * n) (product_is c (pos m)).1 in
    omega (arith, ints)

-- what lies to the left of the anchor moves left as a pixel grows
pub left_grows : (l : ℤ) (n m : ℕ) → l ≤ℤ pos 0 → n ≤ m → (l *ℤ pos m) ≤ℤ (l *ℤ pos n)
left_grows (pos u) n m h k = let e : u ≡ 0 = omega (arith, ints) in rw e (omega (arith, ints))
left_grows (negsuc u) n m h k = let e = mul-le (suc u) n (suc u) m (omega arith) k in omega (arith, ints)

-- what lies to the right of the anchor moves right as a pixel grows
pub right_grows : (r : ℤ) (n m : ℕ) → pos 0 ≤ℤ r → n ≤ m → (r *ℤ pos n) ≤ℤ (r *ℤ pos m)
right_grows (pos u) n m h k = let e = mul-le u n u m (omega arith) k in omega (arith, ints)
right_grows (negsuc u) n m h k = absurd (omega (arith, ints))

low_side : (x l from c : ℤ) (side pixel d n : ℕ) → (c *ℤ pos side) ≤ℤ (x +ℤ (from *ℤ pos pixel)) → from ≤ℤ pos 0 → from ≤ℤ l → n ≤ pixel * d →
    (c *ℤ pos (side * d)) ≤ℤ ((x *ℤ pos d) +ℤ (l *ℤ pos n))
low_side x l from c side pixel d n h left le k =
    let m = scaled_le (c *ℤ pos side) (x +ℤ (from *ℤ pos pixel)) d h in
    let e1 = mul_twice c side d in
    let e2 = sum_scaled x (from *ℤ pos pixel) d in
    let e3 = mul_twice from pixel d in
    let g = left_grows from n (pixel * d) left k in
    let o = scaled_le from l n le in
    omega (arith, ints)

high_side : (x r until c : ℤ) (side pixel d n : ℕ) → (x +ℤ (until *ℤ pos pixel)) <ℤ ((c +ℤ pos 1) *ℤ pos side) → pos 0 ≤ℤ until → r ≤ℤ until → n ≤ pixel * d → 0 < d →
    ((x *ℤ pos d) +ℤ (r *ℤ pos n)) <ℤ ((c +ℤ pos 1) *ℤ pos (side * d))
high_side x r until c side pixel d n h right le k positive =
    let one : ((x +ℤ (until *ℤ pos pixel)) +ℤ pos 1) ≤ℤ ((c +ℤ pos 1) *ℤ pos side) = omega (arith, ints) in
    let m = scaled_le ((x +ℤ (until *ℤ pos pixel)) +ℤ pos 1) ((c +ℤ pos 1) *ℤ pos side) d one in
    let e0 = sum_scaled (x +ℤ (until *ℤ pos pixel)) (pos 1) d in
    let e1 = mul_twice (c +ℤ pos 1) side d in
    let e2 = sum_scaled x (until *ℤ pos pixel) d in
    let e3 = mul_twice until pixel d in
    let g = right_grows until n (pixel * d) right k in
    let o = scaled_le r until n le in
    omega (arith, ints)

-- the columns of a stretch hold every side within it, at every scale below the upper end of the band
pub side_in_columns : (x l r from until : ℤ) (k : ℕ) (s : Fraction) → IsStretch from until → from ≤ℤ l → r ≤ℤ until → s.num < 2 ^ (k + 1) * s.den →
    SideInColumns x l r k (cell_at x from k) (cell_at x until k) s
side_in_columns x l r from until k s h le ge below = (
  low_side x l from (cell_at x from k) (cell_side k) (2 ^ (k + 1)) s.den s.num (quotient_low _ _ (side_pos k)) h.left le (omega arith),
  high_side x r until (cell_at x until k) (cell_side k) (2 ^ (k + 1)) s.den s.num (quotient_high _ _ (side_pos k)) h.right ge (omega arith) s.positive,
)

-- the hull holds what a box covers that the reach holds, at every scale below the upper end of the band
box_in_hull : (a : Label) (p : BoxPx) (k : ℕ) (s : Fraction) → s.num < 2 ^ (k + 1) * s.den → Holds (reach_of a) p → BoxInCells a (hull_of a k) s p
unfolding hull_of
box_in_hull a p k s below h = (
  side_in_columns a.x p.l p.r (reach_of a).l (reach_of a).r k s (reach_extent a).wide h.l h.r below,
  side_in_columns a.y p.b p.t (reach_of a).b (reach_of a).t k s (reach_extent a).high h.b h.t below,
)

-- so it holds all that the label covers with its boxes widened
pub hull_holds : (a : Label) (k : ℕ) (s : Fraction) → s.num < 2 ^ (k + 1) * s.den → HoldLabel (hull_of a k) a s
hull_holds a k s below =
    All-weaker (λ p. Holds (reach_of a) (widened a p)) (λ p. BoxInCells a (hull_of a k) s (widened a p))
    (λ p h. box_in_hull a (widened a p) k s below h) a.boxes (reach_holds a)

-- and so it holds all that the label covers without its margin
hull_holds_plain : (a : Label) (k : ℕ) (s : Fraction) → s.num < 2 ^ (k + 1) * s.den → All (BoxInCells a (hull_of a k) s) a.boxes
hull_holds_plain a k s below =
    All-weaker (Holds (reach_of a)) (BoxInCells a (hull_of a k) s) (λ p h. box_in_hull a p k s below h) a.boxes (reach_holds_plain a)

-- ---- overlapping labels share a cell

-- columns c to d, and e to f, where the first begin at or below the end of the second and the other way round
shared_column : (c d e f : ℤ) → c ≤ℤ d → e ≤ℤ f → c ≤ℤ f → e ≤ℤ d → (x : ℤ) × (c ≤ℤ x) × (x ≤ℤ d) × (e ≤ℤ x) × (x ≤ℤ f)
shared_column c d e f h i j k = (int_max c e, omega (arith, ints, clamps), omega (arith, ints, clamps), omega (arith, ints, clamps), omega (arith, ints, clamps))

columns_of_sides : (x l r y m t : ℤ) (k : ℕ) (c d e f : ℤ) (s : Fraction) → SideInColumns x l r k c d s → SideInColumns y m t k e f s → SidesMeet x l r y m t s → (c ≤ℤ f) × (e ≤ℤ d)
unfolding IsBelow
columns_of_sides x l r y m t k c d e f s h i meet =
    let h0 = h.0 in let h1 = h.1 in let i0 = i.0 in let i1 = i.1 in let m0 = meet.0 in let m1 = meet.1 in (
      stretch_le c f (edge x l s) (edge y t s) (cell_side k * s.den) h0 (omega (arith, ints)) i1,
      stretch_le e d (edge y m s) (edge x r s) (cell_side k * s.den) i0 (omega (arith, ints)) h1,
    )

whole : ℕ → Fraction
whole n = record { num = n; den = 1; positive = lit< tt }

-- a band that holds a scale of the selectable range meets that range
pub meets_here : (a : Label) (s : Fraction) (k : ℕ) → IsAtMost (value_of a.min) s → IsAtMost s (value_of a.max) → IsInBand s k → MeetsBand k (value_of a.min) (value_of a.max)
unfolding whole
meets_here a s k from until band =
    let below : IsLess s (whole (2 ^ (k + 1))) = (let h = band.below in omega arith) in
    let first : IsLess (value_of a.min) (whole (2 ^ (k + 1))) = at_most_less (value_of a.min) s (whole (2 ^ (k + 1))) from below in
    let above : 0 < k → IsAtMost (whole (2 ^ k)) s = λ p. (let h = band.from p in omega arith) in
    let last : 0 < k → IsAtMost (whole (2 ^ k)) (value_of a.max) = λ p. at_most_trans (whole (2 ^ k)) s (value_of a.max) (above p) until in
    record { begins = omega arith; reaches = λ p. (let h = last p in omega arith) }

-- a scale below a maximum lies in one of the bands
pub scale_band : (a : Label) (s : Fraction) → IsLess s (value_of a.max) → (k : ℕ) × (k ≤ 27) × IsInBand s k
unfolding whole
scale_band a s below =
    let top : IsAtMost (value_of a.max) (whole (2 ^ 28)) = (let h = a.low_max in omega arith) in
    let h : IsLess s (whole (2 ^ 28)) = less_at_most s (value_of a.max) (whole (2 ^ 28)) below top in
    has_band s 27 (omega arith)

-- what holds of all in a list holds of the one at a place
pub at_place : {X : Type 0} (P : X → Type 0) (xs : List X) (k : ℕ) (x : X) → All P xs → k < length xs → slice_index_or xs k x ≡ x → P x
at_place P xs k x all h e = subst P e (all k x h)

-- two labels that overlap at a scale share a cell in its band
pub cells_of_overlap : (a b : Label) (k : ℕ) (s : Fraction) → s.num < 2 ^ (k + 1) * s.den → Overlap a b s →
    ((x : ℤ) × (y : ℤ) × IsAmongCells (hull_of a k) x y × IsAmongCells (hull_of b k) x y)
unfolding Overlap BoxesOverlap hull_of
cells_of_overlap a b k s below any =
    let p = any.1 in
    let other = any.4 in
    let q = other.1 in
    let boxes = other.4 in
    let wide_p = widened a p in
    let wide_q = widened b q in
    let ha : BoxInCells a (hull_of a k) s wide_p = at_place (λ o. BoxInCells a (hull_of a k) s (widened a o)) a.boxes any.0 p (hull_holds a k s below) any.2 any.3 in
    let hb : BoxInCells b (hull_of b k) s wide_q = at_place (λ o. BoxInCells b (hull_of b k) s (widened b o)) b.boxes other.0 q (hull_holds b k s below) other.2 other.3 in
    let wa = few_columns a.x (reach_of a).l (reach_of a).r k (reach_extent a).wide in
    let wb = few_columns b.x (reach_of b).l (reach_of b).r k (reach_extent b).wide in
    let ta = few_columns a.y (reach_of a).b (reach_of a).t k (reach_extent a).high in
    let tb = few_columns b.y (reach_of b).b (reach_of b).t k (reach_extent b).high in
    let xs = columns_of_sides a.x wide_p.l wide_p.r b.x wide_q.l wide_q.r k _ _ _ _ s ha.0 hb.0 boxes.0 in
    let ys = columns_of_sides a.y wide_p.b wide_p.t b.y wide_q.b wide_q.t k _ _ _ _ s ha.1 hb.1 boxes.1 in
    let x = shared_column _ _ _ _ wa.0 wb.0 xs.0 xs.1 in
    let y = shared_column _ _ _ _ ta.0 tb.0 ys.0 ys.1 in
    (x.0, y.0, (x.1, x.2, y.1, y.2), (x.3, x.4, y.3, y.4))

-- each label has a last band
last_band : (a : Label) → (k : ℕ) × IsLastBand a k
last_band a = elim (cases_lt a.max.num (2 ^ 28 * a.max.den)) [
  | inl less ↦
      let band = has_band (value_of a.max) 27 (omega arith) in
      let k_in = band.1 in
      (band.0, record { low = omega arith; reaches = band.2.from; ends = λ h. band.2.below })
  | inr more ↦ (27, record { low = omega arith; reaches = λ p. omega arith; ends = λ h. absurd (omega arith) })
]

-- a scale below the maximum is below the upper end of the last band
below_last : (a : Label) (k : ℕ) (s : Fraction) → IsLastBand a k → IsLess s (value_of a.max) → s.num < 2 ^ (k + 1) * s.den
unfolding whole
below_last a k s last below = elim (cases_lt k 27) [
  | inl less ↦
      let top : IsLess (value_of a.max) (whole (2 ^ (k + 1))) = (let h = last.ends less in omega arith) in
      let h : IsLess s (whole (2 ^ (k + 1))) = less_trans s (value_of a.max) (whole (2 ^ (k + 1))) below top in
      omega arith
  | inr more ↦
      let k_in = last.low in
      let e : k ≡ 27 = omega arith in
      let top : IsAtMost (value_of a.max) (whole (2 ^ 28)) = (let h = a.low_max in omega arith) in
      let h : IsLess s (whole (2 ^ 28)) = less_at_most s (value_of a.max) (whole (2 ^ 28)) below top in
      rw e (omega arith)
]

-- a band above some scale of the range begins within it
begins_below : (a : Label) (k : ℕ) (s : Fraction) → IsAtMost (value_of a.min) s → s.num < 2 ^ (k + 1) * s.den → a.min.num < 2 ^ (k + 1) * a.min.den
unfolding whole
begins_below a k s from below =
    let top : IsLess s (whole (2 ^ (k + 1))) = omega arith in
    let h : IsLess (value_of a.min) (whole (2 ^ (k + 1))) = at_most_less (value_of a.min) s (whole (2 ^ (k + 1))) from top in
    omega arith

-- the last band of a label reaches into the range of one that ends no earlier
reaches_later : (a b : Label) (k : ℕ) → IsLastBand a k → IsAtMost (value_of a.max) (value_of b.max) → 0 < k → 2 ^ k * b.max.den ≤ b.max.num
unfolding whole
reaches_later a b k last le some =
    let first : IsAtMost (whole (2 ^ k)) (value_of a.max) = (let h = last.reaches some in omega arith) in
    let h : IsAtMost (whole (2 ^ k)) (value_of b.max) = at_most_trans (whole (2 ^ k)) (value_of a.max) (value_of b.max) first le in
    omega arith

-- labels that overlap at a scale of both ranges share a cell in each band from that scale on that reaches into both
shared_from : (a b : Label) (k : ℕ) (s : Fraction) → k < 28 → s.num < 2 ^ (k + 1) * s.den → IsAtMost (value_of a.min) s → IsAtMost (value_of b.min) s →
    (0 < k → 2 ^ k * a.max.den ≤ a.max.num) → (0 < k → 2 ^ k * b.max.den ≤ b.max.num) → Overlap a b s → (cell : SharedCell a b) × (cell.band ≡ k)
shared_from a b k s low below from_a from_b reaches_a reaches_b over =
    let cell = cells_of_overlap a b k s below over in (
      record {
        band = k;
        x = cell.0;
        y = cell.1;
        first = record { low = low; meets = record { begins = begins_below a k s from_a below; reaches = reaches_a }; among = cell.2 };
        second = record { low = low; meets = record { begins = begins_below b k s from_b below; reaches = reaches_b }; among = cell.3 };
      },
      refl,
    )

-- rivals share a cell in the last band of one of them
pub rivals_share : (a b : Label) → AreRivals a b → LastCell a b
unfolding AreRivals
rivals_share a b rivals =
    let s = rivals.0 in
    elim (cases_lt (b.max.num * a.max.den) (a.max.num * b.max.den)) [
      | inl less ↦
          let last = last_band b in
          let le : IsAtMost (value_of b.max) (value_of a.max) = omega arith in
          let it = shared_from a b last.0 s last.1.low (below_last b last.0 s last.1 rivals.3.1) rivals.2.0 rivals.3.0 (reaches_later b a last.0 last.1 le) last.1.reaches rivals.4 in
          record { cell = it.0; last = inr (subst (IsLastBand b) (sym it.1) last.1) }
      | inr more ↦
          let last = last_band a in
          let le : IsAtMost (value_of a.max) (value_of b.max) = omega arith in
          let it = shared_from a b last.0 s last.1.low (below_last a last.0 s last.1 rivals.2.1) rivals.2.0 rivals.3.0 last.1.reaches (reaches_later a b last.0 last.1 le) rivals.4 in
          record { cell = it.0; last = inl (subst (IsLastBand a) (sym it.1) last.1) }
    ]

-- ---- a rival that bounds a label shares a cell with it in the band of the bound

above_in_band : (f t : Fraction) (k : ℕ) → IsLess f t → IsInBand f k → (s : Fraction) × IsLess f s × IsLess s t × IsInBand s k
unfolding whole
above_in_band f t k h band =
    let top : IsLess f (whole (2 ^ (k + 1))) = (let b = band.below in omega arith) in
    let from : (s : Fraction) → IsLess f s → 0 < k → 2 ^ k * s.den ≤ s.num = λ s over p.
    (let low : IsAtMost (whole (2 ^ k)) f = (let b = band.from p in omega arith) in
    let less : IsLess (whole (2 ^ k)) s = at_most_less (whole (2 ^ k)) f s low over in omega arith) in
    elim (cases_lt (t.num * 1) (2 ^ (k + 1) * t.den)) [
      | inl before ↦
          let over = middle_above f t h in
          let under = middle_below f t h in
          let below : IsLess (middle f t) (whole (2 ^ (k + 1))) = less_trans (middle f t) t (whole (2 ^ (k + 1))) under before in
          (middle f t, over, under, record { from = from (middle f t) over; below = omega arith })
      | inr behind ↦
          let over = middle_above f (whole (2 ^ (k + 1))) top in
          let below = middle_below f (whole (2 ^ (k + 1))) top in
          let under = less_at_most (middle f (whole (2 ^ (k + 1)))) (whole (2 ^ (k + 1))) t below behind in
          (middle f (whole (2 ^ (k + 1))), over, under, record { from = from (middle f (whole (2 ^ (k + 1)))) over; below = omega arith })
    ]

-- a label that ends below its maximum shares a cell in the band of its end with each label that covers it just above
pub bound_shares : (low high : Label) (u f : Fraction) → IsEnd low f → IsLess f (value_of low.max) → IsAtMost u (value_of high.max) → CoversFrom low high u f → BoundCell low high f
unfolding CoversFrom
bound_shares low high u f end below most covers =
    let band = scale_band low f below in
    let k = band.0 in
    let s = above_in_band f covers.0 k covers.1 band.2 in
    let at = covers.2 s.0 s.1 s.2 in
    let cell = cells_of_overlap low high k s.0 s.3.below at.1 in
    let bound : k < 28 = (let h = band.1 in omega arith) in
    let until : IsAtMost s.0 (value_of high.max) = less_is_at_most s.0 (value_of high.max) (less_at_most s.0 u (value_of high.max) at.0.1 most) in
    record {
      band = k;
      x = cell.0;
      y = cell.1;
      in_band = band.2;
      first = record { low = bound; meets = meets_here low f k end.0 end.1 band.2; among = cell.2 };
      second = record { low = bound; meets = meets_here high s.0 k at.0.0 until s.3; among = cell.3 };
    }

-- ---- bands in which labels overlap

-- rivals overlap in a band that meets both ranges
pub rivals_overlap : (a b : Label) → AreRivals a b → RivalBand a b
unfolding AreRivals
rivals_overlap a b rivals =
    let s = rivals.0 in
    let band = scale_band a s rivals.2.1 in
    let k = band.0 in
    let low : k < 28 = (let h = band.1 in omega arith) in
    let until = less_is_at_most s (value_of b.max) rivals.3.1 in
    record {
      band = k;
      first = meets_here a s k rivals.2.0 (less_is_at_most s (value_of a.max) rivals.2.1) band.2;
      second = meets_here b s k rivals.3.0 until band.2;
      over = record { low = low; scale = s; in_band = band.2; begins = rivals.3.0; lasts = until; over = rivals.4 };
    }

-- a rival that bounds a label overlaps it in the band of the bound
pub bound_overlaps : (low high : Label) (u f : Fraction) → IsEnd low f → IsLess f (value_of low.max) → IsAtMost u (value_of high.max) → CoversFrom low high u f → BoundBand low high f
unfolding CoversFrom
bound_overlaps low high u f end below most covers =
    let band = scale_band low f below in
    let k = band.0 in
    let s = above_in_band f covers.0 k covers.1 band.2 in
    let at = covers.2 s.0 s.1 s.2 in
    let bound : k < 28 = (let h = band.1 in omega arith) in
    let until : IsAtMost s.0 (value_of high.max) = less_is_at_most s.0 (value_of high.max) (less_at_most s.0 u (value_of high.max) at.0.1 most) in
    record {
      band = k;
      in_band = band.2;
      first = meets_here low f k end.0 end.1 band.2;
      over = record { low = bound; scale = s.0; in_band = s.3; begins = at.0.0; lasts = until; over = at.1 };
    }

-- ---- a label that meets a window has a cell that meets it

twice : (c : ℤ) (n : ℕ) → (pos 2 *ℤ (c *ℤ pos n)) ≡ (c *ℤ pos (2 * n))
twice c n = omega (arith, ints)

-- a stretch of columns from c to d, of `side` each, that holds the places from `low` to `high`, twice which reach into the window from `from` to `until`
seen_column : (c d low high from until : ℤ) (side : ℕ) → 0 < side → c ≤ℤ d → from <ℤ until → (c *ℤ pos side) ≤ℤ low →
    high <ℤ ((d +ℤ pos 1) *ℤ pos side) → (pos 2 *ℤ low) <ℤ until → from <ℤ (pos 2 *ℤ high) →
    (x : ℤ) × (c ≤ℤ x) × (x ≤ℤ d) × ((pos 2 *ℤ (x *ℤ pos side)) <ℤ until) × (from <ℤ (pos 2 *ℤ ((x +ℤ pos 1) *ℤ pos side)))
seen_column c d low high from until side positive some wide begins ends below above =
    by_lt_z from (pos 2 *ℤ ((c +ℤ pos 1) *ℤ pos side))
    (λ here. (c, omega (arith, ints), some, omega (arith, ints), here))
    (λ later.
    let x = int_div_euclid from (pos (2 * side)) in
    let f = quotient_low from (2 * side) (omega arith) in
    let g = quotient_high from (2 * side) (omega arith) in
    let e1 = twice x side in
    let e2 = twice (x +ℤ pos 1) side in
    let e3 = twice (c +ℤ pos 1) side in
    let e4 = twice (d +ℤ pos 1) side in
    let after : (c +ℤ pos 1) ≤ℤ x = stretch_le (c +ℤ pos 1) x from from (2 * side) (omega (arith, ints)) (omega (arith, ints)) g in
    let before : x ≤ℤ d = stretch_le x d from (pos 2 *ℤ high) (2 * side) f (omega (arith, ints)) (omega (arith, ints)) in
    (x, omega (arith, ints), before, omega (arith, ints), omega (arith, ints)))

seen_side : (x l r c : ℤ) (w k : ℕ) (from until : ℤ) (s : Fraction) → 0 < w → 0 < s.num → from ≤ℤ until → SideInColumns x l r k from until s → SideInWindow x l r c w s →
    (y : ℤ) × (from ≤ℤ y) × (y ≤ℤ until) × ColumnInWindow k y c w s
seen_side x l r c w k from until s wide above some inside seen =
    let grows : 0 < w * s.num = mul-lt 0 0 w s.num wide above in
    let found = seen_column from until (edge x l s) (edge x r s) ((pos 2 *ℤ (c *ℤ pos s.den)) -ℤ pos (w * s.num)) ((pos 2 *ℤ (c *ℤ pos s.den)) +ℤ pos (w * s.num)) (cell_side k * s.den)
    (mul-lt 0 0 (cell_side k) s.den (side_pos k) s.positive) some (omega (arith, ints)) inside.0 inside.1 seen.0 seen.1 in
    (found.0, found.1, found.2, (found.3, found.4))

-- a label that meets a view has a cell that meets it, in the band of the view's scale
pub cell_of_view : (a : Label) (v : View) (k : ℕ) → IsInBand (value_of v.scale) k → IsInView a v → SeenCell a v k
unfolding IsInView BoxInView hull_of
cell_of_view a v k band any =
    let p = any.1 in
    let seen = any.4 in
    let inside : BoxInCells a (hull_of a k) (value_of v.scale) p =
    at_place (BoxInCells a (hull_of a k) (value_of v.scale)) a.boxes any.0 p (hull_holds_plain a k (value_of v.scale) band.below) any.2 any.3 in
    let w = few_columns a.x (reach_of a).l (reach_of a).r k (reach_extent a).wide in
    let t = few_columns a.y (reach_of a).b (reach_of a).t k (reach_extent a).high in
    let x = seen_side a.x p.l p.r v.cx v.w k _ _ (value_of v.scale) (let h = v.some_w in omega arith) v.above w.0 inside.0 seen.0 in
    let y = seen_side a.y p.b p.t v.cy v.h k _ _ (value_of v.scale) (let h = v.some_h in omega arith) v.above t.0 inside.1 seen.1 in
    record { x = x.0; y = y.0; among = (x.1, x.2, y.1, y.2); in_view = (x.3, y.3) }
