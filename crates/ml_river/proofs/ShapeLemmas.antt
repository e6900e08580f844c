-- Shapes, from what the chain says.
use Rattle.std.proofs.Common.{◌≡◌, ℕ, List, Option, Some, None, MatchOption, ℤ, sym, subst}
use Rattle.ml_ratio.specs.declared.geometry.Pos.{Pos}
use Rattle.ml_cone.specs.declared.label.BoxPx.{BoxPx}
use Rattle.ml_river.specs.declared.class.RiverClass.{RiverClass}
use Rattle.ml_river.specs.declared.river.Shape.{Shape}
use Rattle.ml_river.specs.declared.river.Shape.TheVariants.{Chain, Straight}
use Rattle.ml_river.specs.Chain.{IsChainOrNone}
use Rattle.ml_river.specs.River.{IsShape}

-- the shape is the chain where there is one, and straight where there is none
pub shape_from : (c : RiverClass) (run : List Pos) (x y : ℤ) (advances : List ℕ) (o : Option (List BoxPx)) (s : Shape) →
    MatchOption o (s ≡ Straight) (λ b. s ≡ Chain b) → IsChainOrNone c run x y advances o → IsShape c run x y advances s
shape_from c run x y advances None s e h = subst (λ (t : Shape). IsShape c run x y advances t) (sym e) h
shape_from c run x y advances (Some b) s e h = subst (λ (t : Shape). IsShape c run x y advances t) (sym e) h
