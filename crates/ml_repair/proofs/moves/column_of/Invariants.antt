use Rattle.std.proofs.Common.{take}
use Rattle.ml_repair.specs.Moves.{IsColumn}
use Rattle.ml_repair.proofs.moves.column_of.Given as goal

abbrev pub invariant-loop-k : goal.invariant-loop-k
invariant-loop-k l = IsColumn (take l.k l.moved) l.column.items
