-- Texts along lines: what is too wide for one box has no chain either.
use Rattle.std.proofs.Common.{◌≡◌, ℕ, ◌-◌, ◌*◌, ◌^◌, ◌<◌, ◌≤◌, min, max, List, [], ◌∷◌, zero, suc, true, false, Some, length, sum, sum_by, ℤ, pos, inl, inr, refl, sym, subst, arith}
use Rattle.std.proofs.lemmas.List.Sums.{sum-map}
use Rattle.std.specs.Int.{div_ceil}
use Rattle.std.specs.Str.{IsUtf8}
use Rattle.ml_ratio.specs.declared.geometry.Pos.{Pos}
use Rattle.ml_ratio.specs.declared.geometry.Geometry.{Geometry}
use Rattle.ml_ratio.specs.declared.geometry.Geometry.TheVariants.{Point, MultiPoint, LineString, MultiLineString, Polygon, MultiPolygon}
use Rattle.ml_cone.specs.declared.label.BoxPx.{BoxPx}
use Rattle.ml_style.specs.declared.class.Class.{Class}
use Rattle.ml_style.specs.declared.font.Font.{Font}
use Rattle.ml_text.specs.Cluster.{clusters_of}
use Rattle.ml_text.specs.Width.{advance_sum, width_of}
use Rattle.ml_text.specs.declared.cluster.Cluster.{Cluster}
use Rattle.ml_river.specs.declared.class.RiverClass.{RiverClass}
use Rattle.ml_river.specs.declared.river.Placed.{Placed}
use Rattle.ml_river.specs.declared.river.Shape.{Shape}
use Rattle.ml_river.specs.declared.river.Shape.TheVariants.{Chain, Straight}
use Rattle.ml_river.specs.Chain.{width, IsChain}
use Rattle.ml_river.specs.River.{IsShape, IsPlaced, IsRiver}
use Rattle.ml_label.specs.Straight.{IsTooWide}
use Rattle.ml_style.specs.declared.class.Kind.{Kind}
use Rattle.ml_style.specs.declared.class.Kind.TheVariants.{PointKind, LineKind, AreaKind}
use Rattle.ml_label.specs.Placing.{shift, IsTooWideText, IsAlong, IsRiverClass, LiesStraight, HasNoPlace, advances_of}
use Rattle.ml_label.proofs.Widths.{wide_pixels, wide_units}

-- what is cited of clusters and chains, as the laws of them say it
pub record TextLaws : Type 0 where
  pub reach : (font : Font) (text : List ℕ) → IsUtf8 text → min (advance_sum font text) (2 ^ 64 - 1) ≤ sum_by (λ (c : Cluster). c.advance) (clusters_of font text)
  pub narrow : (c : RiverClass) (run : List Pos) (x y : ℤ) (advances : List ℕ) (boxes : List BoxPx) → 0 < length advances → IsChain c run x y advances boxes → width c (sum advances) ≤ 1024

-- a text that is wider than a chain may be has none
shape_straight : (laws : TextLaws) (c : RiverClass) (run : List Pos) (x y : ℤ) (advances : List ℕ) (s : Shape) →
    0 < length advances → 1025 ≤ width c (sum advances) → IsShape c run x y advances s → s ≡ Straight
shape_straight laws c run x y advances (Chain boxes) some wide h = absurd (let low = laws.narrow c run x y advances boxes some h in omega arith)
shape_straight laws c run x y advances Straight some wide h = refl

placed_straight : (laws : TextLaws) (c : RiverClass) (lines : List (List Pos)) (advances : List ℕ) (placed : Placed) →
    0 < length advances → 1025 ≤ width c (sum advances) → IsPlaced c lines advances placed → placed.shape ≡ Straight
placed_straight laws c lines advances placed some wide (inl on) = shape_straight laws c _ placed.anchor.x placed.anchor.y advances placed.shape some wide on.on.shape_is
placed_straight laws c lines advances placed some wide (inr start) = start.straight

river_straight : (laws : TextLaws) (shape : Geometry) (c : RiverClass) (advances : List ℕ) (placed : Placed) →
    0 < length advances → 1025 ≤ width c (sum advances) → IsRiver shape advances c (Some placed) → placed.shape ≡ Straight
river_straight laws (Point place) c advances placed some wide h = absurd (let f : true ≡ false = h in cc)
river_straight laws (MultiPoint places) c advances placed some wide h = absurd (let f : true ≡ false = h in cc)
river_straight laws (LineString line) c advances placed some wide h = placed_straight laws c (line ∷ []) advances placed some wide h
river_straight laws (MultiLineString lines) c advances placed some wide h = placed_straight laws c lines advances placed some wide h
river_straight laws (Polygon rings) c advances placed some wide h = absurd (let f : true ≡ false = h in cc)
river_straight laws (MultiPolygon parts) c advances placed some wide h = absurd (let f : true ≡ false = h in cc)

-- a list with a sum has items
some_items : (l : List ℕ) → 0 < sum l → 0 < length l
some_items [] h = h
some_items (n ∷ l) h = omega arith

some_sum : (total size u : ℕ) → 1025 ≤ max 1 (div_ceil (total * size) u) → 0 < total
some_sum zero size u h = absurd (omega arith)
some_sum (suc n) size u h = omega arith

module _ (laws : TextLaws) (font : Font) (class : Class) (text : List ℕ) (u : IsUtf8 text) (too_wide : IsTooWide (pos 0) (width_of font class.size text)) where
  abbrev total : ℕ
  total = sum (advances_of font text)

  reached : min (advance_sum font text) 18446744073709551615 ≤ total
  reached = subst (λ (n : ℕ). min (advance_sum font text) 18446744073709551615 ≤ n) (sym (sum-map (λ (c : Cluster). c.advance) (clusters_of font text))) (laws.reach font text u)

  wide : 1025 ≤ max 1 (div_ceil (total * class.size) font.units)
  wide = wide_units (advance_sum font text) total class.size font.units class.some_size font.some_units font.few_units (wide_pixels _ too_wide) reached

  some : 0 < length (advances_of font text)
  some = some_items (advances_of font text) (some_sum total class.size font.units wide)

  wide_along : (river : RiverClass) → IsRiverClass font class river → 1025 ≤ width river total
  wide_along river is = rw (is.0, is.1) wide

  -- a text that is too wide lies straight wherever it is placed along a line
  pub lies_straight : (shape : Geometry) (placed : Placed) → IsAlong font class shape text placed → placed.shape ≡ Straight
  lies_straight shape placed along = river_straight laws shape along.river (advances_of font text) placed some (wide_along along.river along.measured) along.placed_is

-- by the kind of the class
straight_by : (laws : TextLaws) (kind : Kind) (font : Font) (class : Class) (shape : Geometry) (text : List ℕ) →
    IsUtf8 text → IsTooWide (shift kind class.dx) (width_of font class.size text) → LiesStraight kind font class shape text
straight_by laws PointKind font class shape text u h = tt
straight_by laws LineKind font class shape text u h = lies_straight laws font class text u h shape
straight_by laws AreaKind font class shape text u h = tt

-- a text that is too wide has no place
pub no_place : (laws : TextLaws) (font : Font) (class : Class) (shape : Geometry) (text : List ℕ) → IsUtf8 text → IsTooWideText font class text → HasNoPlace font class shape text
no_place laws font class shape text u h = (straight_by laws class.kind font class shape text u h, h)
