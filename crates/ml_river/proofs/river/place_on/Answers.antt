use Rattle.std.proofs.Common.{rules, w64, FitsSigned}
use Rattle.std.proofs.lemmas.Int.{to_z-of_z}
use Rattle.ml_river.specs.Height.{IsHeight}
use Rattle.ml_river.specs.Chain.{IsChainOrNone}
use Rattle.ml_river.proofs.ShapeLemmas.{shape_from}
use Rattle.ml_river.proofs.river.place_on.Goals as goal

pub returns : goal.returns
returns c =
    let fx : FitsSigned w64 c.middle_of-x.result = search rules in
    let fy : FitsSigned w64 c.height_on_run-y.result = search rules in
    let y : IsHeight c.args.run.now c.middle_of-x.result c.height_on_run-y.result = simp to_z-of_z at c.height_on_run-y.ensures.height in
    let made : IsChainOrNone c.args.class c.args.run.now c.middle_of-x.result c.height_on_run-y.result c.args.advances.now c.in_ok-chain.field-0 = simp to_z-of_z at c.in_ok-chain.ensures in
    let shape = shape_from c.args.class c.args.run.now c.middle_of-x.result c.height_on_run-y.result c.args.advances.now c.in_ok-chain.field-0 c.shape_of-shape.result c.shape_of-shape.ensures made in
    record {
      x_is = simp to_z-of_z c.middle_of-x.ensures.value;
      y_is = simp to_z-of_z y;
      shape_is = simp to_z-of_z shape;
    }
