use Rattle.ml_cert.specs.Strips.{AreRising}
use Rattle.ml_cert.proofs.arrange.end_of.Given as goal

abbrev pub invariant-loop-to : goal.invariant-loop-to
invariant-loop-to l = AreRising l.spots l.from l.to
