use Rattle.std.proofs.Common.{◌++◌, ap, ◌∙◌, w64, FitsSigned}
use Rattle.std.proofs.lemmas.Int.{to_z-of_z}
use Rattle.std.proofs.lemmas.Result.{on_ok_weaker}
use Rattle.ml_answer.proofs.Layouts.{number_is}
use Rattle.ml_answer.proofs.push.push_number.Goals as goal

pub returns : goal.returns
returns c =
    let fits : FitsSigned w64 c.args.value = c.ranges.value in
    let written = simp to_z-of_z at c.push_signed.ensures in
    on_ok_weaker c.push_signed.result
    (λ is. is ∙ ap (λ t. c.args.text.now.items ++ t) (number_is c.args.value))
    written
