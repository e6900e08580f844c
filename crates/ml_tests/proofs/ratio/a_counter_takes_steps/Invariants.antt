use Rattle.ml_tests.proofs.ratio.a_counter_takes_steps.Given as goal

abbrev pub ghosts-three_steps : goal.ghosts-three_steps
ghosts-three_steps a = record { name = a.blank.name; parts = a.blank.parts }
