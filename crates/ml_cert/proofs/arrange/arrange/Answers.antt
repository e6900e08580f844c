use Rattle.std.proofs.lemmas.List.Sorted.{IsPermutation-trans}
use Rattle.ml_cert.proofs.arrange.arrange.Goals as goal

pub loop-from-preserved : goal.loop-from-preserved
loop-from-preserved c = IsPermutation-trans c.args.spots.now c.loop-from.spots c.sort_part.new.spots c.loop-from.invariant c.sort_part.ensures
