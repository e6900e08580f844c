use Rattle.std.proofs.Common.{Some, ap, ◌∙◌}
use Rattle.std.proofs.lemmas.Result.{IfOk-weaker}
use Rattle.ml_editor.specs.declared.standing.Standing.TheVariants.{Unlabelled, Labelled}
use Rattle.ml_http.specs.Replies.{json_reply}
use Rattle.ml_http.proofs.why.standing_reply.Goals as goal

pub returns-in_ok-text-in-Some-Labelled : goal.returns-in_ok-text-in-Some-Labelled
returns-in_ok-text-in-Some-Labelled c =
    IfOk-weaker c.json_reply.result _ _
    (λ bytes is. (
      Some (Labelled c.in-Some-Labelled.number),
      (c.in_ok-text-in-Some-Labelled.text, c.in_ok-text-in-Some-Labelled.ensures, is ∙ ap (λ t. json_reply 200 c.args.closes t) c.as_slice.ensures),
    ))
    c.json_reply.ensures

pub returns-in_ok-text-in-Some-Unlabelled : goal.returns-in_ok-text-in-Some-Unlabelled
returns-in_ok-text-in-Some-Unlabelled c =
    let stands = rw c.in-Some-Unlabelled.field-0-is at c.in-Some-Unlabelled.ensures in
    IfOk-weaker c.json_reply-in-Some-Unlabelled.result _ _
    (λ bytes is. (
      Some (Unlabelled c.in-Some-Unlabelled.reason),
      (stands.0, stands.1, stands.2, stands.3, is ∙ ap (λ t. json_reply 200 c.args.closes t) (c.as_slice-in-Some-Unlabelled.ensures ∙ c.in_ok-text-in-Some-Unlabelled.ensures)),
    ))
    c.json_reply-in-Some-Unlabelled.ensures
