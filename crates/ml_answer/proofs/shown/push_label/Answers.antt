use Rattle.std.proofs.Common.{◌++◌, ap, ◌∙◌}
use Rattle.std.proofs.lemmas.Result.{on_ok_weaker}
use Rattle.ml_answer.proofs.Layouts.{label_is}
use Rattle.ml_answer.proofs.shown.push_label.Goals as goal

pub returns : goal.returns
returns c =
    on_ok_weaker c.push_members.result
    (λ is. is ∙ ap (λ t. c.args.text.now.items ++ t) (label_is c.args.label.now c.args.until))
    c.push_members.ensures
