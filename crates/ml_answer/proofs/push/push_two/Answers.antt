use Rattle.std.proofs.Common.{◌/◌, ◌%◌, ◌++◌, ap, ◌∙◌, append_assoc}
use Rattle.std.specs.Fmt.{decimal}
use Rattle.std.proofs.lemmas.Result.{on_ok_weaker}
use Rattle.ml_answer.proofs.Layouts.{two_digits_are}
use Rattle.ml_answer.proofs.push.push_two.Goals as goal

pub returns : goal.returns
returns c =
    let before = c.args.text.now.items in
    let value = c.args.value in
    on_ok_weaker c.push_digit-2.result
    (λ is.
    is
    ∙ ap (λ t. t ++ decimal (value % 10)) c.in_ok-push_digit.ensures
    ∙ append_assoc before (decimal (value / 10)) (decimal (value % 10))
    ∙ ap (λ t. before ++ t) (two_digits_are value c.requires.least c.requires.most))
    c.push_digit-2.ensures
