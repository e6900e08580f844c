use Rattle.std.proofs.Common.{rules, [], ◌∷◌}
use Rattle.ml_serve.proofs.SessionLemmas.{served_none}
use Rattle.ml_serve.proofs.VisitLemmas.{served_link}
use Rattle.ml_serve.proofs.links.serve_visit.Goals as goal

pub returns-in-Ok-Some-clause-served : goal.returns-in-Ok-Some-clause-served
returns-in-Ok-Some-clause-served g c =
    let given = rw c.in-Ok-Some.field-0-is at c.in-Ok-Some.ensures.ok in
    served_link _ _ _ _ c.in-Ok-Some.link (record { source = c.serve.new.source; sink = c.serve.new.sink }) _ _
    (rw c.done.ensures.same.2 given.0) (rw c.next.ensures.same.2 at c.done.ensures.last) c.serve.ensures.served c.serve.ensures.cause

pub returns-in-Ok-None-clause-served : goal.returns-in-Ok-None-clause-served
returns-in-Ok-None-clause-served g c =
    let given = rw c.in-Ok-None.field-0-is at c.in-Ok-None.ensures.ok in
    served_none c.take_nothing.ensures c.append_nothing.ensures _ _ _ given.0.1 c.next.ensures.same.2

pub returns-in-Err-clause-served : goal.returns-in-Err-clause-served
returns-in-Err-clause-served g c = served_none c.take_nothing.ensures c.append_nothing.ensures _ _ _ c.in-Err.ensures.err.0 c.next.ensures.same.2
