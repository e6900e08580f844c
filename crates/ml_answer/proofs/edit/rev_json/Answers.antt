use Rattle.std.proofs.Common.{rules, ◌≡◌, ◌∙◌}
use Rattle.ml_answer.specs.Layout.{rev_layout}
use Rattle.ml_answer.proofs.Layouts.{rev_is}
use Rattle.ml_answer.proofs.edit.rev_json.Goals as goal

pub returns : goal.returns
returns c =
    let laid : c.of_vec.result ≡ rev_layout c.args.rev c.args.features c.args.labels = c.of_vec.ensures ∙ search rules in
    laid ∙ rev_is c.args.rev c.args.features c.args.labels
