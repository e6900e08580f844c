use Rattle.std.proofs.Common.{Some, ap, sym, subst, ◌∙◌}
use Rattle.ml_http.specs.Step.{IsIdOf}
use Rattle.ml_http.proofs.why.blocker_of.Goals as goal

pub returns-in-Some : goal.returns-in-Some
returns-in-Some c =
    let live = rw c.in-Some.is at c.requires in
    subst (λ n. IsIdOf c.args.editor.now.engine.rows n (Some c.id.result.now)) (sym c.in-Some.is)
    (live.0, live.1, live.2, ap Some (c.id.ensures ∙ ap (λ l. l.order.id) (c.label_at.ensures live.0 live.1 live.2)))
