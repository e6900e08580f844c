use Rattle.ml_answer.proofs.map_view.shown.Given as goal

abbrev pub ghosts-shown_counted : goal.ghosts-shown_counted
ghosts-shown_counted a = record { name = a.blank.name; parts = a.blank.parts }
