use Rattle.std.proofs.Common.{rules, ◌≡◌, ◌∙◌}
use Rattle.ml_answer.specs.Layout.{edit_layout}
use Rattle.ml_answer.proofs.Layouts.{edit_is}
use Rattle.ml_answer.proofs.edit.edit_json.Goals as goal

pub returns : goal.returns
returns c =
    let laid : c.of_vec.result ≡ edit_layout c.args.rev c.args.changes.now = c.of_vec.ensures ∙ search rules in
    laid ∙ edit_is c.args.rev c.args.changes.now
