use Rattle.std.proofs.Common.{sym, refl}
use Rattle.std.proofs.lemmas.Bool.{false≢true}
use Rattle.ml_repair.proofs.Seeing.{push_here, push_hidden, push_none}
use Rattle.ml_repair.proofs.shown.push_shown.Goals as goal

pub returns-in_ok-push-in-Some : goal.returns-in_ok-push-in-Some
returns-in_ok-push-in-Some c =
    push_here c.args.store.now.rows c.args.view.now c.args.number c.in-Some.at c.row.result.now c.args.places.now c.push.new.self c.row.ensures.numbered.differ
    c.in-Some.ensures.place (sym (c.row.ensures.row c.row.result.now)) (c.if-is_shown.ensures.0 refl) c.in_ok-push-in-Some.ensures.ok

pub returns-else-is_shown : goal.returns-else-is_shown
returns-else-is_shown c =
    push_hidden c.args.store.now.rows c.args.view.now c.args.number c.in-Some.at c.row.result.now c.args.places.now c.row.ensures.numbered.differ c.in-Some.ensures.place
    (sym (c.row.ensures.row c.row.result.now)) (λ h. false≢true (c.if-is_shown.ensures.1 h))

pub returns-in-None : goal.returns-in-None
returns-in-None c = push_none c.args.store.now.rows c.args.view.now c.args.number c.args.places.now c.in-None.ensures.place
