-- Where a text is placed on a shape, and in which boxes.
use Rattle.std.specs.Prelude.{◌≡◌, ℕ, ℤ, pos, List, [], ◌∷◌, map, Some}
use Rattle.ml_ratio.specs.declared.geometry.Pos.{Pos}
use Rattle.ml_ratio.specs.declared.geometry.Geometry.{Geometry}
use Rattle.ml_cone.specs.Plane.{IsBox}
use Rattle.ml_cone.specs.declared.label.BoxPx.{BoxPx}
use Rattle.ml_style.specs.declared.class.Class.{Class}
use Rattle.ml_style.specs.declared.class.Kind.{Kind}
use Rattle.ml_style.specs.declared.class.Kind.TheVariants.{PointKind, LineKind, AreaKind}
use Rattle.ml_style.specs.declared.font.Font.{Font}
use Rattle.ml_text.specs.Cluster.{clusters_of}
use Rattle.ml_text.specs.Width.{width_of}
use Rattle.ml_anchor.specs.Anchor.{point_of, IsAreaAnchor}
use Rattle.ml_river.specs.River.{IsRiver}
use Rattle.ml_river.specs.declared.class.RiverClass.{RiverClass}
use Rattle.ml_river.specs.declared.river.Placed.{Placed}
use Rattle.ml_river.specs.declared.river.Shape.{Shape}
use Rattle.ml_river.specs.declared.river.Shape.TheVariants.{Chain, Straight}
use Rattle.ml_label.specs.Straight.{IsStraight, IsTooWide}

-- the anchor, the boxes, and one piece of text for each
pub record Placing : Type 0 where
  pub anchor : Pos
  pub boxes : List BoxPx
  pub pieces : List (List ℕ)

-- how far labels are moved: lines not at all
abbrev pub shift : Kind → ℤ → ℤ
shift PointKind d = d
shift LineKind d = pos 0
shift AreaKind d = d

-- the straight box of a text: as wide as the text, as high as its size, moved as the class says
abbrev pub IsTextBox : Font → Class → List ℕ → BoxPx → Type 0
IsTextBox font class text box =
    IsStraight (shift class.kind class.dx) (shift class.kind class.dy) (width_of font class.size text) class.size box

-- that box would reach too far
abbrev pub IsTooWideText : Font → Class → List ℕ → Type 0
IsTooWideText font class text = IsTooWide (shift class.kind class.dx) (width_of font class.size text)

-- the straight box of a text, which does not reach too far
abbrev pub IsFittingBox : Font → Class → List ℕ → BoxPx → Type 0
IsFittingBox font class text box = IsTextBox font class text box × ¬ (IsTooWideText font class text) × IsBox box.l box.b box.r box.t

-- the whole text in one box
abbrev pub IsOneBox : BoxPx → List ℕ → Placing → Type 0
IsOneBox box text placing = (placing.boxes ≡ box ∷ []) × (placing.pieces ≡ text ∷ [])

-- the whole text in its straight box
abbrev pub IsInTextBox : Font → Class → List ℕ → Placing → Type 0
IsInTextBox font class text placing = (box : BoxPx) × IsTextBox font class text box × IsOneBox box text placing

-- how the text of a line of this class is measured
abbrev pub IsRiverClass : Font → Class → RiverClass → Type 0
IsRiverClass font class river = (river.units ≡ font.units) × (river.size ≡ class.size) × (river.scale_ref ≡ class.scale_ref)

-- the advances of a text's clusters
abbrev pub advances_of : Font → List ℕ → List ℕ
advances_of font text = map (λ c. c.advance) (clusters_of font text)

-- the clusters of a text
abbrev pub pieces_of : Font → List ℕ → List (List ℕ)
pieces_of font text = map (λ c. c.text) (clusters_of font text)

-- where the text lies along a line
pub record IsAlong (font : Font) (class : Class) (shape : Geometry) (text : List ℕ) (placed : Placed) : Type 0 where
  pub river : RiverClass
  pub measured : IsRiverClass font class river
  pub placed_is : IsRiver shape (advances_of font text) river (Some placed)

-- a chain has a box for each cluster; else the text is in its straight box
abbrev pub HasBoxes : Font → Class → List ℕ → Shape → Placing → Type 0
HasBoxes font class text (Chain boxes) placing = (placing.boxes ≡ boxes) × (placing.pieces ≡ pieces_of font text)
HasBoxes font class text Straight placing = IsInTextBox font class text placing

-- placed along a line
pub record IsPlacedAlong (font : Font) (class : Class) (shape : Geometry) (text : List ℕ) (placing : Placing) : Type 0 where
  pub placed : Placed
  pub along : IsAlong font class shape text placed
  pub anchor_is : placing.anchor ≡ placed.anchor
  pub boxes : HasBoxes font class text placed.shape placing

-- where a text of this kind of class is placed: at a point, along a line, or in an area
abbrev pub IsPlacedBy : Kind → Font → Class → Geometry → List ℕ → Placing → Type 0
IsPlacedBy PointKind font class shape text placing = (point_of shape ≡ Some placing.anchor) × IsInTextBox font class text placing
IsPlacedBy LineKind font class shape text placing = IsPlacedAlong font class shape text placing
IsPlacedBy AreaKind font class shape text placing = IsAreaAnchor shape (Some placing.anchor) × IsInTextBox font class text placing

-- the same, by the kind of the class
abbrev pub IsPlacing : Font → Class → Geometry → List ℕ → Placing → Type 0
IsPlacing font class shape text placing = IsPlacedBy class.kind font class shape text placing

-- along a line the text is straight wherever it is placed
abbrev pub LiesStraight : Kind → Font → Class → Geometry → List ℕ → Type 0
LiesStraight PointKind font class shape text = Unit {0}
LiesStraight LineKind font class shape text = (placed : Placed) → IsAlong font class shape text placed → placed.shape ≡ Straight
LiesStraight AreaKind font class shape text = Unit {0}

-- the text is in its straight box, which reaches too far
abbrev pub HasNoPlace : Font → Class → Geometry → List ℕ → Type 0
HasNoPlace font class shape text = LiesStraight class.kind font class shape text × IsTooWideText font class text
