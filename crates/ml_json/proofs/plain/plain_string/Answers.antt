use Rattle.std.proofs.Common.{◌∙◌, ◌++◌, ◌∷◌, ap}
use Rattle.ml_json.proofs.plain.plain_string.Goals as goal

pub returns : goal.returns
returns c =
    let text = c.split_plain-text.result.0 in
    (c.split_plain-text.ensures.plain, c.in_ok-behind.ensures ∙ ap (λ s. 34 ∷ s) (c.split_plain-text.ensures.split ∙ ap (λ s. text ++ s) c.in_ok-rest.ensures))
