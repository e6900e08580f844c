use Rattle.std.proofs.Common.{refl}
use Rattle.std.proofs.lemmas.Result.{IfOk-weaker}
use Rattle.ml_http.specs.Step.{MapStep}
use Rattle.ml_http.proofs.LinkLemmas.{idles}
use Rattle.ml_http.proofs.StepLemmas.{answered_plain, refused_step}
use Rattle.ml_http.proofs.context.Context.answer.Goals as goal

pub returns-in-Refused-clause-ok : goal.returns-in-Refused-clause-ok
returns-in-Refused-clause-ok g c =
    IfOk-weaker c.refusal_reply.result _ _
    (λ bytes text. answered_plain _ c.hear_nothing.ensures (λ s a t. MapStep s c.args.event.now a t) _ _ bytes.items
    (idles _) refl (refused_step _ c.args.event.now c.in-Refused.refusal bytes.items c.in-Refused.is text))
    c.refusal_reply.ensures
