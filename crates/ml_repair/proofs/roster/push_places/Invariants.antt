use Rattle.std.proofs.Common.{take}
use Rattle.ml_repair.specs.Roster.{PlacesCame}
use Rattle.ml_repair.proofs.roster.push_places.Given as goal

abbrev pub invariant-loop-number : goal.invariant-loop-number
invariant-loop-number l = PlacesCame l.roster (take l.number-index l.numbers) l.initial.out l.out
