-- Labels whose anchors are further apart than they reach set each other no limit.
use Rattle.std.proofs.Common.{◌≡◌, ℕ, ◌+◌, ◌*◌, ◌<◌, ◌≤◌, get_or, arith, ap, subst, sym, ℤ, pos, neg_ℤ, ◌+ℤ◌, ◌-ℤ◌, ◌*ℤ◌, ◌≤ℤ◌, unsigned_abs}
use Rattle.std.proofs.lemmas.Int.{ints, by_lt_z}
use Rattle.std.proofs.lemmas.Nat.{mul-le}
use Rattle.ml_ratio.specs.Fraction.{Fraction, value_of, IsLess}
use Rattle.ml_ratio.specs.declared.ratio.Ratio.{Ratio}
use Rattle.ml_ratio.proofs.lemmas.Rounding.{scaled_le, sum_scaled}
use Rattle.ml_cone.specs.Near.{AreClear}
use Rattle.ml_cone.specs.Overlap.{widened, BoxesOverlap, Overlap}
use Rattle.ml_cone.specs.Plane.{IsBelow, SidesMeet}
use Rattle.ml_cone.specs.declared.label.BoxPx.{BoxPx}
use Rattle.ml_cone.specs.declared.label.Label.{Label}
use Rattle.ml_conflict.specs.Begin.{SetsNoneUpTo}
use Rattle.ml_conflict.specs.Reach.{IsWithin, Reaches, IsFar, anchor_on}
use Rattle.ml_conflict.specs.declared.axis.Axis.{Axis}
use Rattle.ml_conflict.specs.declared.axis.Axis.TheVariants.{Across, Along}
use Rattle.ml_conflict.proofs.Limits.{none_of_clear}

-- a box within so many pixels lies within more
pub within_more : (axis : Axis) (r q : ℕ) (p : BoxPx) → r ≤ q → IsWithin axis r p → IsWithin axis q p
within_more Across r q p le within = let l = within.0 in let s = within.1 in (omega (arith, ints), omega (arith, ints))
within_more Along r q p le within = let b = within.0 in let t = within.1 in (omega (arith, ints), omega (arith, ints))

-- a label that reaches at most so many pixels from its anchor reaches at most more
pub reaches_more : (axis : Axis) (a : Label) (r q : ℕ) → r ≤ q → Reaches axis a r → Reaches axis a q
reaches_more axis a r q le reach k d lt = within_more axis r q (widened a (get_or a.boxes k d)) le (reach k d lt)

-- what is too far away for w at m/e is so for w at n/d, which is at most m/e
no_room : (g w m e n d : ℕ) → 0 < e → g * d < w * n → n * e ≤ m * d → w * m ≤ g * e → ⊥
no_room g w m e n d some less upto far =
    let p = mul-le (g * d + 1) e (w * n) e (omega arith) (omega arith) in
    let q = mul-le w (n * e) w (m * d) (omega arith) upto in
    let r = mul-le (w * m) d (g * e) d far (omega arith) in
    omega arith

-- an edge at x lies below one at y, which is g further back, only where g is less than the two reach toward each other
edge_near : (x u y v : ℤ) (r q g : ℕ) (s : Fraction) → neg_ℤ (pos r) ≤ℤ u → v ≤ℤ pos q → x ≡ (y +ℤ pos g) → IsBelow x u y v s → g * s.den < (r + q) * s.num
unfolding IsBelow
edge_near x u y v r q g s low high far below =
    let sum = sum_scaled y (pos g) s.den in
    let at : (x *ℤ pos s.den) ≡ ((y +ℤ pos g) *ℤ pos s.den) = ap (λ (z : ℤ). z *ℤ pos s.den) far in
    let up : pos 0 ≤ℤ (u +ℤ pos r) = omega (arith, ints) in
    let least = scaled_le (pos 0) (u +ℤ pos r) s.num up in
    let parts = sum_scaled u (pos r) s.num in
    let most = scaled_le v (pos q) s.num high in
    let meet = below in
    omega (arith, ints)

-- sides that meet are less far apart than they reach toward each other
sides_near : (x l p y k t : ℤ) (r q : ℕ) (s : Fraction) → neg_ℤ (pos r) ≤ℤ l → p ≤ℤ pos r → neg_ℤ (pos q) ≤ℤ k → t ≤ℤ pos q → SidesMeet x l p y k t s → unsigned_abs (x -ℤ y) * s.den < (r + q) * s.num
sides_near x l p y k t r q s a b c d meet =
    let g : ℕ = unsigned_abs (x -ℤ y) in
    by_lt_z x y
    (λ less. let near = edge_near y k x p q r g s c b (omega (arith, ints)) meet.1 in omega arith)
    (λ most. edge_near x l y t r q g s a d (omega (arith, ints)) meet.0)

-- so are labels that overlap, on either axis
labels_near : (axis : Axis) (a b : Label) (r q : ℕ) → Reaches axis a r → Reaches axis b q → (s : Fraction) →
    Overlap a b s → unsigned_abs (anchor_on axis a -ℤ anchor_on axis b) * s.den < (r + q) * s.num
unfolding Overlap BoxesOverlap
labels_near Across a b r q reach_a reach_b s (k, p, lt, e, (m, o, lt', e', boxes)) =
    let one : IsWithin Across r (widened a p) = subst (λ (o : BoxPx). IsWithin Across r (widened a o)) e (reach_a k p lt) in
    let other : IsWithin Across q (widened b o) = subst (λ (o : BoxPx). IsWithin Across q (widened b o)) e' (reach_b m o lt') in
    sides_near a.x (widened a p).l (widened a p).r b.x (widened b o).l (widened b o).r r q s one.0 one.1 other.0 other.1 boxes.0
labels_near Along a b r q reach_a reach_b s (k, p, lt, e, (m, o, lt', e', boxes)) =
    let one : IsWithin Along r (widened a p) = subst (λ (o : BoxPx). IsWithin Along r (widened a o)) e (reach_a k p lt) in
    let other : IsWithin Along q (widened b o) = subst (λ (o : BoxPx). IsWithin Along q (widened b o)) e' (reach_b m o lt') in
    sides_near a.y (widened a p).b (widened a p).t b.y (widened b o).b (widened b o).t r q s one.0 one.1 other.0 other.1 boxes.1

far_clear : (axis : Axis) (a b : Label) (r q : ℕ) → Reaches axis a r → Reaches axis b q → (bound : Ratio) → IsFar (anchor_on axis a) (anchor_on axis b) (r + q) bound → AreClear a b bound.num bound.den
far_clear axis a b r q reach_a reach_b bound far = (
  record { num = bound.num + 1; den = bound.den; positive = bound.positive },
  omega arith,
  λ s upto over. no_room (unsigned_abs (anchor_on axis a -ℤ anchor_on axis b)) (r + q) (bound.num + 1) bound.den s.num s.den bound.positive (labels_near axis a b r q reach_a reach_b s over) upto far,
)

-- labels that are too far apart on an axis set each other no limit up to the bound
pub far_on : (axis : Axis) (a b : Label) (r q : ℕ) → Reaches axis a r → Reaches axis b q → (u : Fraction) (bound : Ratio) →
    IsFar (anchor_on axis a) (anchor_on axis b) (r + q) bound → SetsNoneUpTo a b u (value_of bound)
far_on axis a b r q reach_a reach_b u bound far = none_of_clear a b u (value_of bound) (far_clear axis a b r q reach_a reach_b bound far)

-- labels that reach r pixels to the west and east, and are further apart, set each other no limit up to the bound
pub far_labels : (a b : Label) (r : ℕ) → Reaches Across a r → Reaches Across b r → (u : Fraction) (bound : Ratio) → IsFar a.x b.x (2 * r) bound → SetsNoneUpTo a b u (value_of bound)
far_labels a b r reach_a reach_b u bound far =
    let twice : 2 * r ≡ r + r = omega arith in
    far_on Across a b r r reach_a reach_b u bound (subst (λ (p : ℕ). IsFar a.x b.x p bound) twice far)

-- labels that are as far apart on an axis as both together reach at the end overlap at no scale below it
pub distant_labels : (axis : Axis) (a b : Label) (r far : ℕ) (end : Fraction) → Reaches axis a r → Reaches axis b r →
    2 * r * end.num ≤ far * end.den → far ≤ unsigned_abs (anchor_on axis a -ℤ anchor_on axis b) → (s : Fraction) → IsLess s end → ¬ (Overlap a b s)
distant_labels axis a b r far end reach_a reach_b wide apart s less over =
    let g : ℕ = unsigned_abs (anchor_on axis a -ℤ anchor_on axis b) in
    let twice : 2 * r ≡ r + r = omega arith in
    let more = mul-le far end.den g end.den apart (omega arith) in
    let near = labels_near axis a b r r reach_a reach_b s over in
    no_room g (2 * r) end.num end.den s.num s.den end.positive (subst (λ (p : ℕ). g * s.den < p * s.num) (sym twice) near) (omega arith) (omega arith)
