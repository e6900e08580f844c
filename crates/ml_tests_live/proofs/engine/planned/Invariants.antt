use Rattle.ml_tests_live.proofs.engine.planned.Given as goal

abbrev pub ghosts-plan_of : goal.ghosts-plan_of
ghosts-plan_of g a = record { name = a.blank.name; parts = a.blank.parts }
