-- A text is placed in one way, or not at all.
use mathlib.Core.HLevel.{is_prop→PathP}
use Rattle.std.proofs.Common.{◌≡◌, ℕ, List, [], ◌∷◌, Some, All, ℤ, pos, negsuc, ◌<ℤ◌, ◌≤ℤ◌, inl, inr, sym, ap, ◌∙◌, subst, arith}
use Rattle.std.proofs.Props.{props}
use Rattle.std.proofs.lemmas.Int.{ints}
use Rattle.std.proofs.lemmas.List.Elements.{All-head}
use Rattle.std.proofs.lemmas.Option.{same_Some}
use Rattle.ml_ratio.specs.Geometry.{IsGeometry, IsSamePlace}
use Rattle.ml_ratio.specs.declared.geometry.Pos.{Pos}
use Rattle.ml_ratio.specs.declared.geometry.Geometry.{Geometry}
use Rattle.ml_cone.specs.Plane.{IsBox}
use Rattle.ml_cone.specs.declared.label.BoxPx.{BoxPx}
use Rattle.ml_style.specs.declared.class.Class.{Class}
use Rattle.ml_style.specs.declared.class.Kind.{Kind}
use Rattle.ml_style.specs.declared.class.Kind.TheVariants.{PointKind, LineKind, AreaKind}
use Rattle.ml_style.specs.declared.font.Font.{Font}
use Rattle.ml_text.specs.Width.{width_of}
use Rattle.ml_anchor.specs.Anchor.{IsAreaAnchor}
use Rattle.ml_river.specs.Class.{IsUnits, IsSize, IsReference}
use Rattle.ml_river.specs.River.{IsRiver, IsSamePlacing}
use Rattle.ml_river.specs.declared.river.Placed.{Placed}
use Rattle.ml_river.specs.declared.class.RiverClass.{RiverClass}
use Rattle.ml_river.specs.declared.river.Shape.{Shape}
use Rattle.ml_river.specs.declared.river.Shape.TheVariants.{Chain, Straight}
use Rattle.ml_label.specs.Straight.{left, right, IsTooWide}
use Rattle.ml_label.specs.Placing.{Placing, shift, IsTextBox, IsTooWideText, IsInTextBox, IsRiverClass, advances_of, HasBoxes, IsPlacedAlong, IsPlacedBy, IsPlacing, LiesStraight, HasNoPlace}

-- what is cited of anchors and rivers, as the laws of them say it
pub record PlaceLaws : Type 0 where
  pub anchor : (shape : Geometry) (p q : Pos) → IsGeometry shape → IsAreaAnchor shape (Some p) → IsAreaAnchor shape (Some q) → IsSamePlace p q
  pub river : (shape : Geometry) (advances : List ℕ) (c : RiverClass) (p q : Placed) → IsRiver shape advances c (Some p) → IsRiver shape advances c (Some q) → IsSamePlacing p q

-- boxes with the same sides are the same box
same_sides : (p q : BoxPx) → p.l ≡ q.l → p.b ≡ q.b → p.r ≡ q.r → p.t ≡ q.t → p ≡ q
same_sides p q l b r t = λ i. record { l = l i; b = b i; r = r i; t = t i }

-- placings with one anchor, the same boxes and the same pieces
pub record Agree (p q : Placing) : Type 0 where
  pub x_is : p.anchor.x ≡ q.anchor.x
  pub y_is : p.anchor.y ≡ q.anchor.y
  pub boxes_are : p.boxes ≡ q.boxes
  pub pieces_are : p.pieces ≡ q.pieces

-- classes with the same numbers are the same class
same_numbers : (a b : RiverClass) → a.units ≡ b.units → a.size ≡ b.size → a.scale_ref ≡ b.scale_ref → a ≡ b
same_numbers a b u s r = λ i. record {
  units = u i;
  size = s i;
  scale_ref = r i;
  units_in = is_prop→PathP (λ j. IsUnits (u j)) (λ j. hlevel props) a.units_in b.units_in i;
  size_in = is_prop→PathP (λ j. IsSize (s j)) (λ j. hlevel props) a.size_in b.size_in i;
  reference_in = is_prop→PathP (λ j. IsReference (r j)) (λ j. hlevel props) a.reference_in b.reference_in i;
}

-- a text of a class is measured in one way
one_river : (font : Font) (class : Class) (a b : RiverClass) → IsRiverClass font class a → IsRiverClass font class b → a ≡ b
one_river font class a b p q = same_numbers a b (p.0 ∙ sym q.0) (p.1 ∙ sym q.1) (p.2 ∙ sym q.2)

below_end : (a b c : ℤ) → a ≡ b → c ≤ℤ a → b <ℤ c → ⊥
below_end a b c e h k = omega (arith, ints)

above_end : (a b c : ℤ) → a ≡ b → a ≤ℤ c → c <ℤ b → ⊥
above_end a b c e h k = omega (arith, ints)

-- ends that a box may have do not reach too far
reaches : (dx l r : ℤ) (w : ℕ) → l ≡ left dx w → r ≡ right dx w → negsuc 511 ≤ℤ l → r ≤ℤ pos 512 → IsTooWide dx w → ⊥
reaches dx l r w left_is right_is low high (inl below) = below_end l (left dx w) (negsuc 511) left_is low below
reaches dx l r w left_is right_is low high (inr above) = above_end r (right dx w) (pos 512) right_is high above

module _ (font : Font) (class : Class) (text : List ℕ) where
  -- the straight box of a text is one
  one_text_box : (a b : BoxPx) → IsTextBox font class text a → IsTextBox font class text b → a ≡ b
  one_text_box a b p q = same_sides a b (p.left_is ∙ sym q.left_is) (p.bottom_is ∙ sym q.bottom_is) (p.right_is ∙ sym q.right_is) (p.top_is ∙ sym q.top_is)

  one_in_box : (p q : Placing) → IsInTextBox font class text p → IsInTextBox font class text q → (p.boxes ≡ q.boxes) × (p.pieces ≡ q.pieces)
  one_in_box p q a b =
      let same = one_text_box a.0 b.0 a.1 b.1 in
      (a.2.0 ∙ (ap (λ (box : BoxPx). box ∷ []) same ∙ sym b.2.0), a.2.1 ∙ sym b.2.1)

  -- the boxes along a line follow from the shape there
  one_boxes : (s : Shape) (p q : Placing) → HasBoxes font class text s p → HasBoxes font class text s q → (p.boxes ≡ q.boxes) × (p.pieces ≡ q.pieces)
  one_boxes (Chain boxes) p q a b = (a.0 ∙ sym b.0, a.1 ∙ sym b.1)
  one_boxes Straight p q a b = one_in_box p q a b

  -- a straight box of a label does not reach too far
  in_reach : (placing : Placing) → IsInTextBox font class text placing → All (λ p. IsBox p.l p.b p.r p.t) placing.boxes → ¬ (IsTooWideText font class text)
  in_reach placing is good wide =
      let ours : All (λ (p : BoxPx). IsBox p.l p.b p.r p.t) (is.0 ∷ []) = subst (All (λ (p : BoxPx). IsBox p.l p.b p.r p.t)) is.2.0 good in
      let box = All-head (λ (p : BoxPx). IsBox p.l p.b p.r p.t) is.0 [] ours in
      reaches (shift class.kind class.dx) is.0.l is.0.r (width_of font class.size text) is.1.left_is is.1.right_is box.0.0.0 box.0.1.1 wide

module _ (laws : PlaceLaws) (font : Font) (class : Class) (shape : Geometry) (text : List ℕ) where
  one_along : (p q : Placing) → IsPlacedAlong font class shape text p → IsPlacedAlong font class shape text q → Agree p q
  one_along p q a b =
      let river = one_river font class b.along.river a.along.river b.along.measured a.along.measured in
      let there : IsRiver shape (advances_of font text) a.along.river (Some b.placed) = subst (λ (r : RiverClass). IsRiver shape (advances_of font text) r (Some b.placed)) river b.along.placed_is in
      let same = laws.river shape (advances_of font text) a.along.river a.placed b.placed a.along.placed_is there in
      let boxes = one_boxes font class text a.placed.shape p q a.boxes (subst (λ (s : Shape). HasBoxes font class text s q) (sym same.1) b.boxes) in
      record {
        x_is = ap (λ (z : Pos). z.x) a.anchor_is ∙ (same.0.0 ∙ ap (λ (z : Pos). z.x) (sym b.anchor_is));
        y_is = ap (λ (z : Pos). z.y) a.anchor_is ∙ (same.0.1 ∙ ap (λ (z : Pos). z.y) (sym b.anchor_is));
        boxes_are = boxes.0;
        pieces_are = boxes.1;
      }

  one_placed : (kind : Kind) (p q : Placing) → IsGeometry shape → IsPlacedBy kind font class shape text p → IsPlacedBy kind font class shape text q → Agree p q
  one_placed PointKind p q shaped a b =
      let same = same_Some p.anchor q.anchor (sym a.0 ∙ b.0) in
      let boxes = one_in_box font class text p q a.1 b.1 in
      record { x_is = ap (λ (z : Pos). z.x) same; y_is = ap (λ (z : Pos). z.y) same; boxes_are = boxes.0; pieces_are = boxes.1 }
  one_placed LineKind p q shaped a b = one_along p q a b
  one_placed AreaKind p q shaped a b =
      let same = laws.anchor shape p.anchor q.anchor shaped a.0 b.0 in
      let boxes = one_in_box font class text p q a.1 b.1 in
      record { x_is = same.0; y_is = same.1; boxes_are = boxes.0; pieces_are = boxes.1 }

  -- a text is placed in one way
  pub one_placing : (p q : Placing) → IsGeometry shape → IsPlacing font class shape text p → IsPlacing font class shape text q → Agree p q
  one_placing p q shaped a b = one_placed class.kind p q shaped a b

module _ (font : Font) (class : Class) (shape : Geometry) (text : List ℕ) where
  straight_box : (kind : Kind) (p : Placing) → IsPlacedBy kind font class shape text p → LiesStraight kind font class shape text → IsInTextBox font class text p
  straight_box PointKind p a straight = a.1
  straight_box LineKind p a straight = subst (λ (s : Shape). HasBoxes font class text s p) (straight a.placed a.along) a.boxes
  straight_box AreaKind p a straight = a.1

  -- or not at all
  pub placing_or_none : (p : Placing) → IsPlacing font class shape text p → All (λ p. IsBox p.l p.b p.r p.t) p.boxes → ¬ (HasNoPlace font class shape text)
  placing_or_none p a good none = in_reach font class text p (straight_box class.kind p a none.0) good none.1
