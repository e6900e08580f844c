-- The text of a river has one place.
use Rattle.std.proofs.Common.{◌≡◌, ℕ, ◌<◌, List, [], ◌∷◌, length, get_or, Some, true, false, ℤ, inl, inr, refl, sym, ap, ◌∙◌, subst, arith}
use Rattle.std.proofs.lemmas.List.{same_lists}
use Rattle.std.proofs.lemmas.Option.{same_Some}
use Rattle.ml_ratio.specs.declared.geometry.Pos.{Pos}
use Rattle.ml_ratio.specs.declared.geometry.Geometry.{Geometry}
use Rattle.ml_ratio.specs.declared.geometry.Geometry.TheVariants.{Point, MultiPoint, LineString, MultiLineString, Polygon, MultiPolygon}
use Rattle.ml_cone.specs.declared.label.BoxPx.{BoxPx}
use Rattle.ml_river.specs.declared.class.RiverClass.{RiverClass}
use Rattle.ml_river.specs.declared.river.Placed.{Placed}
use Rattle.ml_river.specs.declared.river.Shape.{Shape}
use Rattle.ml_river.specs.declared.river.Shape.TheVariants.{Chain, Straight}
use Rattle.ml_river.specs.Run.{line_at, turned}
use Rattle.ml_river.specs.Height.{IsRising, IsHeight}
use Rattle.ml_river.specs.Chain.{left, right, IsChain}
use Rattle.ml_river.specs.River.{IsShape, IsPlacedOn, IsOnWidestRun, IsAtStart, IsPlaced, IsRiver, IsSamePlacing}
use Rattle.ml_river.proofs.TurnLemmas.{turned_run}
use Rattle.ml_river.proofs.LawLemmas.{one_height, same_box, chain_or_none}
use Rattle.ml_river.proofs.OneRun.{one_turned}

-- boxes with the same sides are the same box
pub same_sides : (p q : BoxPx) → p.l ≡ q.l → p.b ≡ q.b → p.r ≡ q.r → p.t ≡ q.t → p ≡ q
same_sides p q l b r t = λ i. record { l = l i; b = b i; r = r i; t = t i }

module _ (c : RiverClass) (run : List Pos) (up : IsRising run) (advances : List ℕ) where
  -- a chain is one
  one_chain : (x y : ℤ) (boxes others : List BoxPx) → IsChain c run x y advances boxes → IsChain c run x y advances others → boxes ≡ others
  one_chain x y boxes others p q =
      same_lists boxes others (p.one_each ∙ sym q.one_each) (λ k d h.
      let there : k < length others = (let e = p.one_each in let f = q.one_each in omega arith) in
      let same = same_box c run x y (left c advances k) (right c advances k) (get_or boxes k d) (get_or others k d) up (p.each k d h) (q.each k d there) in
      same_sides _ _ same.0 same.1 same.2 same.3)

  -- the shape at an anchor is one
  one_shape : (x y : ℤ) (s t : Shape) → IsShape c run x y advances s → IsShape c run x y advances t → s ≡ t
  one_shape x y (Chain boxes) (Chain others) p q = ap (λ (l : List BoxPx). Chain l) (one_chain x y boxes others p q)
  one_shape x y (Chain boxes) Straight p q = absurd (chain_or_none c run x y advances boxes up p q)
  one_shape x y Straight (Chain boxes) p q = absurd (chain_or_none c run x y advances boxes up q p)
  one_shape x y Straight Straight p q = refl

  -- the place on a run is one
  one_on_run : (p q : Placed) → IsPlacedOn c run advances p → IsPlacedOn c run advances q → IsSamePlacing p q
  one_on_run p q a b =
      let x : p.anchor.x ≡ q.anchor.x = a.x_is ∙ sym b.x_is in
      let y : p.anchor.y ≡ q.anchor.y = one_height run p.anchor.x p.anchor.y q.anchor.y up a.y_is (subst (λ (z : ℤ). IsHeight run z q.anchor.y) (sym x) b.y_is) in
      let there : IsShape c run p.anchor.x p.anchor.y advances q.shape = subst (λ (z : ℤ). IsShape c run z p.anchor.y advances q.shape)
      (sym x) (subst (λ (z : ℤ). IsShape c run q.anchor.x z advances q.shape) (sym y) b.shape_is) in
      ((x, y), one_shape p.anchor.x p.anchor.y p.shape q.shape a.shape_is there)

one_on_widest : (c : RiverClass) (lines : List (List Pos)) (advances : List ℕ) (p q : Placed) → IsOnWidestRun c lines advances p → IsOnWidestRun c lines advances q → IsSamePlacing p q
one_on_widest c lines advances p q a b =
    let up = (turned_run (line_at lines a.line) a.from a.to a.widest.run.1).rising in
    let same = one_turned lines b.line b.from b.to a.line a.from a.to b.widest a.widest in
    one_on_run c (turned (line_at lines a.line) a.from a.to) up advances p q a.on (subst (λ (run : List Pos). IsPlacedOn c run advances q) same b.on)

-- the start of the first line is one
one_at_start : (lines : List (List Pos)) (p q : Placed) → IsAtStart lines p → IsAtStart lines q → IsSamePlacing p q
one_at_start lines p q a b =
    let same = same_Some p.anchor q.anchor (sym a.start ∙ b.start) in
    ((ap (λ (z : Pos). z.x) same, ap (λ (z : Pos). z.y) same), a.straight ∙ sym b.straight)

one_placed : (c : RiverClass) (lines : List (List Pos)) (advances : List ℕ) (p q : Placed) → IsPlaced c lines advances p → IsPlaced c lines advances q → IsSamePlacing p q
one_placed c lines advances p q (inl a) (inl b) = one_on_widest c lines advances p q a b
one_placed c lines advances p q (inl a) (inr b) = absurd (b.none a.line a.from a.to a.widest.run)
one_placed c lines advances p q (inr a) (inl b) = absurd (a.none b.line b.from b.to b.widest.run)
one_placed c lines advances p q (inr a) (inr b) = one_at_start lines p q a b

-- the text of a river has one place
pub one_place : (shape : Geometry) (advances : List ℕ) (c : RiverClass) (p q : Placed) → IsRiver shape advances c (Some p) → IsRiver shape advances c (Some q) → IsSamePlacing p q
one_place (Point place) advances c p q a b = absurd (let f : true ≡ false = a in cc)
one_place (MultiPoint places) advances c p q a b = absurd (let f : true ≡ false = a in cc)
one_place (LineString line) advances c p q a b = one_placed c (line ∷ []) advances p q a b
one_place (MultiLineString lines) advances c p q a b = one_placed c lines advances p q a b
one_place (Polygon rings) advances c p q a b = absurd (let f : true ≡ false = a in cc)
one_place (MultiPolygon parts) advances c p q a b = absurd (let f : true ≡ false = a in cc)
