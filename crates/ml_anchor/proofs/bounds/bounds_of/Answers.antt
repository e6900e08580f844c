use Rattle.std.proofs.Common.{rules, arith, w64, FitsSigned}
use Rattle.std.proofs.lemmas.Int.{to_z-of_z}
use Rattle.ml_anchor.proofs.RingLemmas.{bounds_of_first, bounds_more, bounds_all, in_order}
use Rattle.ml_anchor.proofs.bounds.bounds_of.Goals as goal

pub loop-i-init : goal.loop-i-init
loop-i-init c =
    let x : FitsSigned w64 c.index-ring-0.result.x = search rules in
    let y : FitsSigned w64 c.index-ring-0.result.y = search rules in
    simp to_z-of_z (bounds_of_first c.args.ring.now c.index-ring-0.result c.requires c.index-ring-0.is)

pub loop-i-preserved : goal.loop-i-preserved
loop-i-preserved c =
    let g = c.grown-bounds.ensures in
    bounds_more c.args.ring.now c.loop-i.i c.index-ring-i.result c.index-ring-i.result _ _ _ _ _ _ _ _ (omega arith) (omega arith) c.index-ring-i.is c.loop-i.invariant g.west g.east g.south g.north

pub returns-clause-bounds : goal.returns-clause-bounds
returns-clause-bounds c = bounds_all c.args.ring.now c.loop-i.i _ _ _ _ c.loop-i-test.false c.loop-i.invariant

pub returns-clause-order : goal.returns-clause-order
returns-clause-order c = in_order c.args.ring.now _ _ _ _ c.requires (bounds_all c.args.ring.now c.loop-i.i _ _ _ _ c.loop-i-test.false c.loop-i.invariant)
