use Rattle.std.proofs.Common.{map, refl}
use Rattle.std.proofs.lemmas.Result.{IfOk-weaker}
use Rattle.ml_editor.specs.Faults.{wish_of}
use Rattle.ml_http.specs.Routes.{pair_bytes}
use Rattle.ml_http.proofs.StepLemmas.{unasked, no_revision, accepted, turned_down}
use Rattle.ml_http.proofs.context.Context.edit.Goals as goal

pub returns-in_default-clause-ok : goal.returns-in_default-clause-ok
returns-in_default-clause-ok g c =
    let query = map pair_bytes c.args.pairs.now in
    let request = c.args.request.now in
    IfOk-weaker c.query_reply.result _ _
    (λ bytes text. unasked _ c.hear_nothing.ensures c.args.route query request.body request.closes _ _ bytes.items c.closes-closes.ensures c.in_default.ensures text)
    c.query_reply.ensures

pub returns-in_default-revision_asked-clause-ok : goal.returns-in_default-revision_asked-clause-ok
returns-in_default-revision_asked-clause-ok g c =
    let query = map pair_bytes c.args.pairs.now in
    let request = c.args.request.now in
    IfOk-weaker c.query_reply-in_default-revision_asked.result _ _
    (λ bytes text. no_revision _ c.hear_nothing.ensures c.args.route query request.body request.closes (wish_of c.in-Some.asked) _ _ bytes.items
    c.closes-closes.ensures c.in-Some.ensures c.in_default-revision_asked.ensures text)
    c.query_reply-in_default-revision_asked.ensures

pub returns-in-Err-clause-ok : goal.returns-in-Err-clause-ok
returns-in-Err-clause-ok g c =
    let query = map pair_bytes c.args.pairs.now in
    let request = c.args.request.now in
    let outcome = c.in-Err.ensures.outcome in
    IfOk-weaker c.fault_reply.result _ _
    (λ bytes told. turned_down _ c.hear_nothing.ensures c.args.route query request.body request.closes (wish_of c.in-Some.asked) c.in-Some-revision_asked.rev _ c.in-Err.fault told.0 _ _ bytes.items
    c.closes-closes.ensures c.in-Some.ensures c.in-Some-revision_asked.ensures (record { map_state = outcome.same.state; crowd = refl; tiles = refl })
    c.in-Err.ensures.paid (λ some. (outcome.refused c.in-Err.fault some).0 refl) told.1 told.2)
    c.fault_reply.ensures

pub returns-in-Ok-clause-ok : goal.returns-in-Ok-clause-ok
returns-in-Ok-clause-ok g c =
    let query = map pair_bytes c.args.pairs.now in
    let request = c.args.request.now in
    let ready = c.in-Ok.ready in
    let outcome = c.in-Ok.ensures.outcome in
    IfOk-weaker c.accept.result _ _
    (λ bytes done. accepted _ c.args.route query request.body request.closes (wish_of c.in-Some.asked) c.in-Some-revision_asked.rev _ ready.edit ready.evaluated _ _ _ bytes.items
    c.closes-closes.ensures c.in-Some.ensures c.in-Some-revision_asked.ensures
    outcome.ok (record { map_state = outcome.same.state; crowd = refl; tiles = refl }) c.in-Ok.ensures.paid done)
    c.accept.ensures.ok
