use Rattle.std.proofs.Common.{◌≡◌, drop}
use Rattle.std.specs.List.{filter_map}
use Rattle.ml_answer.specs.View.{no_label, with_labels}
use Rattle.ml_command.specs.ViewLine.{shown_at}
use Rattle.ml_command.proofs.view_line.view_of.Given as goal

abbrev pub invariant-loop-place : goal.invariant-loop-place
invariant-loop-place l =
    with_labels l.view (filter_map (shown_at l.labels l.slots) (drop l.place-index l.places))
    ≡ with_labels (no_label l.fn.scale) (filter_map (shown_at l.labels l.slots) l.places)
