use Rattle.ml_command.proofs.MapLines.{map_lined}
use Rattle.ml_command.proofs.map_line.map_line.Goals as goal

pub returns : goal.returns
returns c =
    map_lined c.one_label_a_number.ensures c.args.style c.args.features c.in_ok-editor.editor.state
    c.args.view.now c.in_ok-line.line _ c.in_ok-editor.ensures c.in_ok-line.ensures c.in_ok-push.ensures.ok
