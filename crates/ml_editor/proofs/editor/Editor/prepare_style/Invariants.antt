use Rattle.ml_editor.proofs.editor.Editor.prepare_style.Given as goal

abbrev pub ghosts-prepare_counted : goal.ghosts-prepare_counted
ghosts-prepare_counted a = record { name = a.blank.name; parts = a.blank.parts }
