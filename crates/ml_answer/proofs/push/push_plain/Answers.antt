use Rattle.std.proofs.Common.{◌++◌, ◌∷◌, [], sym, ap, ◌∙◌}
use Rattle.std.proofs.lemmas.Result.{on_ok_weaker}
use Rattle.ml_answer.proofs.push.push_plain.Goals as goal

pub returns : goal.returns
returns c =
    on_ok_weaker c.push_quoted.result
    (λ is. is ∙ ap (λ s. c.args.text.now.items ++ 34 ∷ (s ++ 34 ∷ [])) (sym c.requires))
    c.push_quoted.ensures
