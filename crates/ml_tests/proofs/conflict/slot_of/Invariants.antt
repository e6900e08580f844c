use Rattle.ml_tests.proofs.conflict.slot_of.Given as goal

abbrev pub ghosts-slot_counted : goal.ghosts-slot_counted
ghosts-slot_counted a = record { name = a.blank.name; parts = a.blank.parts }
