use Rattle.std.proofs.Common.{◌++◌}
use Rattle.std.specs.Prelude.{codes}
use Rattle.ml_watch.specs.Line.{spaced_span}
use Rattle.ml_watch.proofs.Putting.{held_then, held_cut}
use Rattle.ml_watch.proofs.line.put_spans.Goals as goal

pub returns-in-Ok : goal.returns-in-Ok
returns-in-Ok g c = held_then (rw c.in-Ok.is at c.put_span.ensures) c.put_last.ensures

pub returns-in-Err : goal.returns-in-Err
returns-in-Err g c = held_cut (spaced_span c.args.after ++ codes "\n") _ c.put_span.ensures (rw c.in-Err.is tt) tt
