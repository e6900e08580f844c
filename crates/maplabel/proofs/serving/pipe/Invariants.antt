use Rattle.maplabel.proofs.serving.pipe.Given as goal

abbrev pub ghosts-pipe_counted : goal.ghosts-pipe_counted
ghosts-pipe_counted g a = record { name = a.blank.name; parts = a.blank.parts }
