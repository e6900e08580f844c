use Rattle.std.proofs.Common.{◌++◌}
use Rattle.std.specs.Prelude.{codes}
use Rattle.ml_watch.specs.Line.{spaced_span}
use Rattle.ml_watch.proofs.Putting.{held_then, held_cut}
use Rattle.ml_watch.proofs.line.put_change.Goals as goal

pub returns-in-Ok : goal.returns-in-Ok
returns-in-Ok g c = held_then (rw (c.in-Ok.is, c.as_str.ensures.bytes) at c.put_id.ensures) c.put_spans.ensures

pub returns-in-Err : goal.returns-in-Err
returns-in-Err g c = held_cut (spaced_span c.args.change.now.before ++ (spaced_span c.args.change.now.after ++ codes "\n")) _ (rw c.as_str.ensures.bytes at c.put_id.ensures) (rw c.in-Err.is tt) tt
