use Rattle.ml_tests_live.proofs.engine.ids_shown.Given as goal

abbrev pub ghosts-look : goal.ghosts-look
ghosts-look g a = record { name = a.blank.name; parts = a.blank.parts }
