use Rattle.ml_flight.specs.Sweep.{IsHighest}
use Rattle.ml_flight.proofs.highest.highest.Given as goal

abbrev pub invariant-loop-k : goal.invariant-loop-k
invariant-loop-k l = IsHighest l.begins l.ends l.k l.best
