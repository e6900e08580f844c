use Rattle.ml_river.proofs.SeenLemmas.{best_end}
use Rattle.ml_river.proofs.runs.widest_run.Goals as goal

pub returns : goal.returns
returns c = best_end c.args.lines.now c.loop-i.i c.loop-i.best c.loop-i-test.false c.loop-i.invariant
