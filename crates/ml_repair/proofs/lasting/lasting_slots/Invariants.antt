use Rattle.ml_repair.proofs.LastSlots.{LastingOf}
use Rattle.ml_repair.proofs.lasting.lasting_slots.Given as goal

abbrev pub invariant-loop-m : goal.invariant-loop-m
invariant-loop-m l = LastingOf l.roster l.moves l.m-index l.lasting.items
