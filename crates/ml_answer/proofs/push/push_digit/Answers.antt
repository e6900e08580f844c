use Rattle.std.proofs.Common.{◌++◌, sym, ap, ◌∙◌}
use Rattle.std.proofs.lemmas.Fmt.{decimal_digit}
use Rattle.std.proofs.lemmas.Result.{on_ok_weaker}
use Rattle.ml_answer.proofs.push.push_digit.Goals as goal

pub returns : goal.returns
returns c =
    on_ok_weaker c.push_byte.result
    (λ is. is ∙ ap (λ t. c.args.text.now.items ++ t) (sym (decimal_digit c.args.value c.requires)))
    c.push_byte.ensures
