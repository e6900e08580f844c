use Rattle.std.specs.Prelude.{codes}
use Rattle.ml_watch.proofs.Putting.{held_then, held_cut}
use Rattle.ml_watch.proofs.line.put_last.Goals as goal

pub returns-in-Ok : goal.returns-in-Ok
returns-in-Ok g c = held_then (rw c.in-Ok.is at c.put_span.ensures) c.put_text.ensures

pub returns-in-Err : goal.returns-in-Err
returns-in-Err g c = held_cut (codes "\n") _ c.put_span.ensures (rw c.in-Err.is tt) tt
