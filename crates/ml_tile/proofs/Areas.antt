-- A box within the area of some tiles is within one of them.
use Rattle.std.proofs.Common.{◌≡◌, ℕ, zero, suc, ◌+◌, ◌*◌, ◌^◌, ◌<◌, ◌≤◌, ℤ, pos, negsuc, ◌+ℤ◌, ◌-ℤ◌, ◌*ℤ◌, ◌<ℤ◌, ◌≤ℤ◌, ap, ◌∙◌, refl, subst, arith, lit<, lit≤, Contains}
use Rattle.std.proofs.Math.Nat.{pow-le-pow_right}
use Rattle.std.proofs.lemmas.Int.{ints, by_lt_z}
use Rattle.std.proofs.lemmas.Nat.{pow_pos}
use borrow.Author.Differences.{up, down, sum_is_lem}
use Rattle.ml_ratio.proofs.lemmas.Rounding.{scaled_le}
use Rattle.ml_ratio.specs.Fraction.{value_of}
use Rattle.ml_ratio.specs.Lowest.{IsLowest}
use Rattle.ml_ratio.specs.declared.ratio.Ratio.{Ratio}
use Rattle.ml_cone.specs.Plane.{IsBox, SideInWindow}
use Rattle.ml_cone.specs.Range.{ActiveBetween}
use Rattle.ml_cone.specs.Shown.{BoxInView, IsInView}
use Rattle.ml_cone.specs.declared.label.BoxPx.{BoxPx}
use Rattle.ml_cone.specs.declared.label.Label.{Label}
use Rattle.ml_cone.specs.declared.slot.Span.{Span}
use Rattle.ml_cone.specs.declared.view.View.{View}
use Rattle.ml_tile.specs.Cache.{ShowsIn}
use Rattle.ml_tile.specs.Tile.{IsTileView}
use Rattle.ml_tile.specs.declared.key.TileKey.{TileKey}
use Rattle.ml_tile.specs.Area.{side, scale, SideInColumns, IsBetween, AreTiles, IsInArea}
use Rattle.ml_tile.specs.Place.{middle, IsTile}

-- a sum times a natural number
distrib : (a b : ℤ) (n : ℕ) → ((a +ℤ b) *ℤ pos n) ≡ ((a *ℤ pos n) +ℤ (b *ℤ pos n))
distrib a b n =
    let e : (up (a +ℤ b) + down a + down b) * n ≡ (down (a +ℤ b) + up a + up b) * n = ap (λ (t : ℕ). t * n) (sum_is_lem a b) in
    omega (arith, ints)

-- a product with twice as large a number
doubled : (m : ℤ) (h : ℕ) → (m *ℤ pos (2 * h)) ≡ ((m *ℤ pos h) +ℤ (m *ℤ pos h))
doubled m h = omega (arith, ints)

middle_by : (m : ℤ) (h : ℕ) → ((m *ℤ pos (2 * h)) +ℤ pos h) ≡ (((pos 2 *ℤ m) +ℤ pos 1) *ℤ pos h)
middle_by m h =
    let d = distrib (pos 2 *ℤ m) (pos 1) h in
    let t = distrib m m h in
    let both : (pos 2 *ℤ m) ≡ (m +ℤ m) = omega (arith, ints) in
    let e = ap (λ (u : ℤ). u *ℤ pos h) both in
    let w = doubled m h in
    omega (arith, ints)

-- the middle by the lower side
middle_is : (m : ℤ) (z : ℕ) → ((m *ℤ pos (side z)) +ℤ pos (512 * 2 ^ z)) ≡ middle z m
middle_is m z =
    let twice : side z ≡ 2 * (512 * 2 ^ z) = omega arith in
    ap (λ (s : ℕ). (m *ℤ pos s) +ℤ pos (512 * 2 ^ z)) twice ∙ middle_by m (512 * 2 ^ z)

next_is : (m : ℤ) (s : ℕ) → ((m +ℤ pos 1) *ℤ pos s) ≡ ((m *ℤ pos s) +ℤ pos s)
next_is m s = let d = distrib m (pos 1) s in omega (arith, ints)

-- how far one number is above another
apart : (i k : ℤ) → i ≤ℤ k → (n : ℕ) × (k ≡ i +ℤ pos n)
apart i k h = by_difference (k -ℤ i) refl
  where
    by_difference : (d : ℤ) → d ≡ k -ℤ i → (n : ℕ) × (k ≡ i +ℤ pos n)
    by_difference (pos n) e = (n, omega (arith, ints))
    by_difference (negsuc n) e = absurd (omega (arith, ints))

-- of columns side by side, one that a stretch meets
choose : (n : ℕ) (a b : ℤ) (s : ℕ) (i k : ℤ) → k ≡ i +ℤ pos n → a <ℤ b → (i *ℤ pos s) <ℤ b → a <ℤ ((k +ℤ pos 1) *ℤ pos s) →
    (m : ℤ) × IsBetween m i k × ((m *ℤ pos s) <ℤ b) × (a <ℤ ((m +ℤ pos 1) *ℤ pos s))
choose zero a b s i k e over low high =
    let same : k ≡ i = omega (arith, ints) in
    (i, (omega (arith, ints), omega (arith, ints)), low, subst (λ (q : ℤ). a <ℤ ((q +ℤ pos 1) *ℤ pos s)) same high)
choose (suc n) a b s i k e over low high =
    by_lt_z a ((i +ℤ pos 1) *ℤ pos s)
    (λ less. (i, (omega (arith, ints), omega (arith, ints)), low, less))
    (λ le.
    let next : k ≡ (i +ℤ pos 1) +ℤ pos n = omega (arith, ints) in
    let on = choose n a b s (i +ℤ pos 1) k next over (omega (arith, ints)) high in
    let from = on.1.0 in
    (on.0, (omega (arith, ints), on.1.1), on.2, on.3))

-- a wide side
wide : (l r : ℤ) (q : ℕ) → 0 < q → l <ℤ r → (l *ℤ pos q) <ℤ (r *ℤ pos q)
wide l r q some less =
    let m = scaled_le (l +ℤ pos 1) r q (omega (arith, ints)) in
    let d = distrib l (pos 1) q in
    omega (arith, ints)

-- a side that meets a column is in the window of its tiles
in_window : (x l r : ℤ) (z : ℕ) (m : ℤ) → SideInColumns x l r z m m → SideInWindow x l r (middle z m) 1024 (scale z)
in_window x l r z m meets =
    let c = middle_is m z in
    let n = next_is m (side z) in
    let below = meets.0 in
    let above = meets.1 in
    (omega (arith, ints), omega (arith, ints))

-- a side that meets the columns meets one of them
one_column : (x l r : ℤ) (z : ℕ) (i k : ℤ) → i ≤ℤ k → l <ℤ r → SideInColumns x l r z i k → (m : ℤ) × IsBetween m i k × SideInWindow x l r (middle z m) 1024 (scale z)
one_column x l r z i k h less meets =
    let n = apart i k h in
    let w = wide l r (2 ^ z) (pow_pos z) less in
    let on = choose n.0 (x +ℤ (l *ℤ pos (2 ^ z))) (x +ℤ (r *ℤ pos (2 ^ z))) (side z) i k n.1 (omega (arith, ints)) meets.0 meets.1 in
    (on.0, on.1, in_window x l r z on.0 (on.2, on.3))

abbrev tile_key : (z : ℕ) (i j : ℤ) → IsTile z i j → TileKey
tile_key z i j tile = record { z = z; i = i; j = j; deep = tile.deep; world_x = tile.world_x; world_y = tile.world_y }

lowest : (n : ℕ) → IsLowest n 1
lowest n m k some e = some

abbrev tile_scale : (z : ℕ) → z ≤ 21 → Ratio
tile_scale z deep =
    let low : 2 ^ z ≤ 2 ^ 21 = pow-le-pow_right (omega arith) deep in
    record { num = 2 ^ z; den = 1; positive = lit< tt; low_num = omega arith; low_den = lit≤ tt; lowest = lowest (2 ^ z) }

abbrev tile_view : (z : ℕ) (i j : ℤ) → IsTile z i j → View
tile_view z i j tile =
    let low : 2 ^ z ≤ 2 ^ 21 = pow-le-pow_right (omega arith) tile.deep in
    record {
      cx = middle z i;
      cy = middle z j;
      w = 1024;
      h = 1024;
      scale = tile_scale z tile.deep;
      world_x = tile.world_x;
      world_y = tile.world_y;
      some_w = lit≤ tt;
      some_h = lit≤ tt;
      low_w = lit≤ tt;
      low_h = lit≤ tt;
      even_w = refl;
      even_h = refl;
      above = pow_pos z;
      below = omega arith;
    }

its_view : (z : ℕ) (i j : ℤ) (tile : IsTile z i j) → IsTileView z i j (tile_view z i j tile)
its_view z i j tile = record { cx_is = refl; cy_is = refl; w_is = refl; h_is = refl; num_is = refl; den_is = refl }

in_tile : (a : Label) (z : ℕ) (i j : ℤ) (tile : IsTile z i j) (p : BoxPx) → Contains a.boxes p →
    SideInWindow a.x p.l p.r (middle z i) 1024 (scale z) → SideInWindow a.y p.b p.t (middle z j) 1024 (scale z) → IsInView a (tile_view z i j tile)
unfolding IsInView BoxInView
in_tile a z i j tile p among x y = (among.0, p, among.1, among.2, (x, y))

-- a label that is active and of which a box meets the area of some tiles is shown in one of them
pub shown_in_one : (label : Label) (span : Span) (z : ℕ) (i k j m : ℤ) → i ≤ℤ k → j ≤ℤ m → AreTiles z i k j m →
    ActiveBetween (value_of span.min) (value_of span.until) (scale z) → IsInArea label z i k j m →
    (key : TileKey) × (key.z ≡ z) × IsBetween key.i i k × IsBetween key.j j m × ShowsIn label span key
shown_in_one label span z i k j m columns rows tiles active meets =
    let p = meets.1 in
    let good : IsBox p.l p.b p.r p.t = subst (λ (q : BoxPx). IsBox q.l q.b q.r q.t) meets.3 (label.good_boxes meets.0 p meets.2) in
    let c = one_column label.x p.l p.r z i k columns good.0.2 meets.4.0 in
    let r = one_column label.y p.b p.t z j m rows good.1.2 meets.4.1 in
    let tile = tiles c.0 r.0 c.1 r.1 in
    let shown = in_tile label z c.0 r.0 tile p (meets.0, meets.2, meets.3) c.2 r.2 in
    (tile_key z c.0 r.0 tile, refl, c.1, r.1, (tile_view z c.0 r.0 tile, its_view z c.0 r.0 tile, active, shown))
