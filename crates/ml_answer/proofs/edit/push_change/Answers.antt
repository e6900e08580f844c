use Rattle.std.proofs.Common.{◌++◌, ap, ◌∙◌}
use Rattle.std.proofs.lemmas.Result.{on_ok_weaker}
use Rattle.ml_answer.proofs.Layouts.{change_is}
use Rattle.ml_answer.proofs.edit.push_change.Goals as goal

pub returns : goal.returns
returns c =
    on_ok_weaker c.push_members.result
    (λ is. is ∙ ap (λ t. c.args.text.now.items ++ t) (change_is c.args.change.now))
    c.push_members.ensures
