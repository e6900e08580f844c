use Rattle.std.proofs.Common.{rules, w64}
use Rattle.ml_anchor.specs.Pairs.{pair_gap}
use Rattle.ml_anchor.proofs.BestLemmas.{wider, no_wider, best_keeps, best_takes}
use Rattle.ml_anchor.proofs.pairs.widest.Goals as goal
use Rattle.ml_anchor.proofs.pairs.widest.Goals.{then-width, else-width}

pub loop-k-preserved : goal.loop-k-preserved
loop-k-preserved c =
    elim c.if-width.branch [
      | then-width w ↦ rw w.best-is (best_takes (pair_gap c.args.sorted.now) c.loop-k.k c.loop-k.best c.loop-k.invariant
          (wider w64 c.width.result c.width-in-loop-k.result _ _ (search rules) (search rules) c.width.ensures c.width-in-loop-k.ensures w.if-width.true))
      | else-width w ↦ rw w.best-is (best_keeps (pair_gap c.args.sorted.now) c.loop-k.k c.loop-k.best c.loop-k.invariant
          (no_wider w64 c.width.result c.width-in-loop-k.result _ _ (search rules) (search rules) c.width.ensures c.width-in-loop-k.ensures w.if-width.false))
    ]
