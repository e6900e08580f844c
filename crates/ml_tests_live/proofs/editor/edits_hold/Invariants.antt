use Rattle.ml_tests_live.proofs.editor.edits_hold.Given as goal

abbrev pub ghosts-all_hold : goal.ghosts-all_hold
ghosts-all_hold g a = record { name = a.blank.name; parts = a.blank.parts }
