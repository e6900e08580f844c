-- Texts that are placed: in their straight box, or along a line.
use Rattle.std.proofs.Common.{◌≡◌, ℕ, ◌<◌, ◌≤◌, ◌^◌, min, List, [], ◌∷◌, Some, Option, map, length, sum, sum_by, All, ℤ, pos, Result, Ok, Err, IfOk, true, false, inl, inr, sym, ap, ◌∙◌, subst, arith}
use Rattle.std.proofs.lemmas.List.{length-map}
use Rattle.std.proofs.lemmas.List.Sums.{sum-map}
use Rattle.ml_ratio.specs.declared.geometry.Pos.{Pos}
use Rattle.ml_ratio.specs.declared.geometry.Geometry.{Geometry}
use Rattle.ml_ratio.specs.declared.geometry.Geometry.TheVariants.{Point, MultiPoint, LineString, MultiLineString, Polygon, MultiPolygon}
use Rattle.ml_cone.specs.declared.label.BoxPx.{BoxPx}
use Rattle.ml_cone.specs.Plane.{IsBox}
use Rattle.ml_style.specs.Offset.{IsOffset}
use Rattle.ml_style.specs.declared.class.Class.{Class}
use Rattle.ml_style.specs.declared.class.Kind.{Kind}
use Rattle.ml_style.specs.declared.class.Kind.TheVariants.{LineKind}
use Rattle.ml_style.specs.declared.font.Font.{Font}
use Rattle.ml_text.specs.Cluster.{clusters_of}
use Rattle.ml_text.specs.Width.{advance_sum, width_of}
use Rattle.ml_text.specs.declared.cluster.Cluster.{Cluster}
use Rattle.ml_river.specs.declared.class.RiverClass.{RiverClass}
use Rattle.ml_river.specs.declared.river.Placed.{Placed}
use Rattle.ml_river.specs.declared.river.Shape.{Shape}
use Rattle.ml_river.specs.declared.river.Shape.TheVariants.{Chain, Straight}
use Rattle.ml_river.specs.River.{IsShape, IsPlaced, IsRiver}
use Rattle.ml_label.specs.Straight.{IsStraight, IsTooWide}
use Rattle.ml_label.specs.Placing.{Placing, shift, IsTextBox, IsTooWideText, IsOneBox, IsAlong, IsRiverClass, HasBoxes, IsPlacedAlong, pieces_of, advances_of}
use Rattle.ml_label.specs.Seen.{placing_of}
use Rattle.ml_label.specs.declared.placed.PlacedText.{PlacedText}
use Rattle.ml_label.proofs.Widths.{wider, not_wide, narrow_pixels, narrow_units}

module _ (font : Font) (class : Class) (text : List ℕ) where
  -- the least of the width and a bound, and what is too wide by it
  pub too_wide : (dx : ℤ) (w : ℕ) → dx ≡ shift class.kind class.dx → w ≡ min (width_of font class.size text) 18446744073709551615 → IsTooWide dx w → IsTooWideText font class text
  too_wide dx w dx_is w_is wide = rw dx_is at (wider dx w (width_of font class.size text) (omega arith) wide)

  -- the box of a text that is not too wide
  pub in_box : (dx dy : ℤ) (w : ℕ) (box : BoxPx) → IsOffset dx → dx ≡ shift class.kind class.dx → dy ≡ shift class.kind class.dy →
      w ≡ min (width_of font class.size text) 18446744073709551615 → ¬ (IsTooWide dx w) → IsStraight dx dy w class.size box →
      IsBox box.l box.b box.r box.t → IsTextBox font class text box × ¬ (IsTooWideText font class text) × IsBox box.l box.b box.r box.t
  in_box dx dy w box moved dx_is dy_is w_is narrow straight good =
      let low = not_wide dx w moved narrow in
      let whole : w ≡ width_of font class.size text = omega arith in
      (rw (dx_is, dy_is, whole) at straight, rw (dx_is, whole) at narrow, good)

  -- the advances along a line of a text that is not too wide
  pub short : (all : List Cluster) (advances : List ℕ) → class.kind ≡ LineKind → ¬ (IsTooWideText font class text) →
      (advance_sum font text < 18446744073709551616 → sum_by (λ (c : Cluster). c.advance) all ≡ advance_sum font text) →
      advances ≡ map (λ (c : Cluster). c.advance) all → sum advances < 2 ^ 48
  short all advances is_line narrow total are =
      let unmoved : shift class.kind class.dx ≡ pos 0 = ap (λ (k : Kind). shift k class.dx) is_line in
      let pixels = narrow_pixels (width_of font class.size text) (rw unmoved at narrow) in
      let low = narrow_units (advance_sum font text) class.size font.units class.some_size font.some_units font.few_units pixels in
      let same = total (omega arith) in
      let summed : sum advances ≡ sum_by (λ (c : Cluster). c.advance) all = ap sum are ∙ sum-map (λ (c : Cluster). c.advance) all in
      omega arith

-- where the clusters lie along a line
pub along_is : (font : Font) (class : Class) (shape : Geometry) (text : List ℕ) (river : RiverClass) (all : List Cluster)
    (advances : List ℕ) (answer : Option Placed) (placed : Placed) → IsRiverClass font class river → all ≡ clusters_of font text →
    advances ≡ map (λ (c : Cluster). c.advance) all → IsRiver shape advances river answer → answer ≡ Some placed → IsAlong font class shape text placed
along_is font class shape text river all advances answer placed measured clusters are is some =
    let same : advances ≡ advances_of font text = are ∙ ap (λ (l : List Cluster). map (λ (c : Cluster). c.advance) l) clusters in
    record { river = river; measured = measured; placed_is = rw (same, some) at is }

-- the boxes of a chain are some, at most 64, one for each advance, and good
abbrev AreChainBoxes : List ℕ → List BoxPx → Type 0
AreChainBoxes advances boxes = (length boxes ≤ 64) × (length boxes ≡ length advances) × All (λ p. IsBox p.l p.b p.r p.t) boxes

shape_boxes : (c : RiverClass) (run : List Pos) (x y : ℤ) (advances : List ℕ) (s : Shape) (boxes : List BoxPx) → IsShape c run x y advances s → s ≡ Chain boxes → AreChainBoxes advances boxes
shape_boxes c run x y advances (Chain there) boxes is same =
    let e : there ≡ boxes = cc in
    let few = is.few in
    let each = is.one_each in
    let low : length there ≤ 64 = omega arith in
    let these : AreChainBoxes advances there = (low, each, is.good) in
    rw e at these
shape_boxes c run x y advances Straight boxes is same = absurd (cc)

placed_boxes : (c : RiverClass) (lines : List (List Pos)) (advances : List ℕ) (placed : Placed) (boxes : List BoxPx) →
    IsPlaced c lines advances placed → placed.shape ≡ Chain boxes → AreChainBoxes advances boxes
placed_boxes c lines advances placed boxes (inl on) same = shape_boxes c _ placed.anchor.x placed.anchor.y advances placed.shape boxes on.on.shape_is same
placed_boxes c lines advances placed boxes (inr start) same = absurd (let other = sym start.straight ∙ same in cc)

river_boxes : (shape : Geometry) (c : RiverClass) (advances : List ℕ) (placed : Placed) (boxes : List BoxPx) →
    IsRiver shape advances c (Some placed) → placed.shape ≡ Chain boxes → AreChainBoxes advances boxes
river_boxes (Point place) c advances placed boxes h same = absurd (let f : true ≡ false = h in cc)
river_boxes (MultiPoint places) c advances placed boxes h same = absurd (let f : true ≡ false = h in cc)
river_boxes (LineString line) c advances placed boxes h same = placed_boxes c (line ∷ []) advances placed boxes h same
river_boxes (MultiLineString lines) c advances placed boxes h same = placed_boxes c lines advances placed boxes h same
river_boxes (Polygon rings) c advances placed boxes h same = absurd (let f : true ≡ false = h in cc)
river_boxes (MultiPolygon parts) c advances placed boxes h same = absurd (let f : true ≡ false = h in cc)

module _ (font : Font) (class : Class) (shape : Geometry) (text : List ℕ) (placed : Placed) (along : IsAlong font class shape text placed) where
  -- the boxes of a chain with the pieces of a text
  pub chain_fits : (boxes : List BoxPx) (all : List Cluster) (pieces : List (List ℕ)) → placed.shape ≡ Chain boxes →
      all ≡ clusters_of font text → 0 < length all → pieces ≡ map (λ (c : Cluster). c.text) all →
      (0 < length boxes) × (length boxes ≤ 64) × All (λ p. IsBox p.l p.b p.r p.t) boxes × (length pieces ≡ length boxes)
  chain_fits boxes all pieces same clusters some are =
      let is = river_boxes shape along.river (advances_of font text) placed boxes along.placed_is same in
      let advances : length (advances_of font text) ≡ length all = length-map (clusters_of font text) (λ (c : Cluster). c.advance) ∙ ap length (sym clusters) in
      let texts : length pieces ≡ length all = ap length are ∙ length-map all (λ (c : Cluster). c.text) in
      let each = is.1 in
      let some_box : 0 < length boxes = omega arith in
      let one_each : length pieces ≡ length boxes = omega arith in
      (some_box, is.0, is.2, one_each)

  -- a chain
  pub chained : (boxes : List BoxPx) (all : List Cluster) (placing : Placing) → placed.shape ≡ Chain boxes → all ≡ clusters_of font text →
      placing.anchor ≡ placed.anchor → placing.boxes ≡ boxes → placing.pieces ≡ map (λ (c : Cluster). c.text) all → IsPlacedAlong font class shape text placing
  chained boxes all placing same clusters anchor are pieces =
      let texts : placing.pieces ≡ pieces_of font text = pieces ∙ ap (λ (l : List Cluster). map (λ (c : Cluster). c.text) l) clusters in
      record { placed = placed; along = along; anchor_is = anchor; boxes = subst (λ (s : Shape). HasBoxes font class text s placing) (sym same) (are, texts) }

  -- one straight box
  pub straightened : (box : BoxPx) (placing : Placing) → placed.shape ≡ Straight → IsTextBox font class text box →
      placing.anchor ≡ placed.anchor → IsOneBox box text placing → IsPlacedAlong font class shape text placing
  straightened box placing same straight anchor one =
      record { placed = placed; along = along; anchor_is = anchor; boxes = subst (λ (s : Shape). HasBoxes font class text s placing) (sym same) (box, straight, one) }

  -- the same of an answer
  pub straight_answer : {E : Type 0} (box : BoxPx) (answer : Result PlacedText E) → placed.shape ≡ Straight →
      IsTextBox font class text box → IfOk answer (λ p. p.anchor ≡ placed.anchor) →
      IfOk answer (λ p. IsOneBox box text (placing_of p)) → IfOk answer (λ p. IsPlacedAlong font class shape text (placing_of p))
  straight_answer box (Ok p) same straight anchor one = straightened box (placing_of p) same straight anchor one
  straight_answer box (Err e) same straight anchor one = tt
