use Rattle.ml_watch.proofs.Putting.{line_given, line_cut}
use Rattle.ml_watch.proofs.line.put_line.Goals as goal

pub returns-in-Ok : goal.returns-in-Ok
returns-in-Ok g c = line_given _ _ _ c.give.result (rw (c.in-Ok.is, c.new-held.ensures) at c.put_change.ensures) c.give.ensures.ok c.give.ensures.same c.give.ensures.grows c.give.ensures.cause

pub returns-in-Err : goal.returns-in-Err
returns-in-Err g c = line_cut _ (rw c.new-held.ensures at c.put_change.ensures) (rw c.in-Err.is tt) tt
