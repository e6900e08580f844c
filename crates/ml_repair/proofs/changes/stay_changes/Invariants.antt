use Rattle.ml_repair.proofs.Noting.{Noted}
use Rattle.ml_repair.proofs.changes.stay_changes.Given as goal

abbrev pub invariant-loop-m : goal.invariant-loop-m
invariant-loop-m l = Noted l.roster l.moves l.m-index l.out.items
