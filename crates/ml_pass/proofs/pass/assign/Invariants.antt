use Rattle.ml_pass.proofs.pass.assign.Given as goal

abbrev pub ghosts-assign_counted : goal.ghosts-assign_counted
ghosts-assign_counted a = record { name = a.blank.name; parts = a.blank.parts }
