use Rattle.ml_tests.proofs.grid.window_told.Given as goal

abbrev pub ghosts-look : goal.ghosts-look
ghosts-look g a = record { name = a.blank.name; parts = a.blank.parts }
