use Rattle.ml_watch.proofs.Putting.{grows_nothing}
use Rattle.ml_watch.proofs.line.make_room.Goals as goal

pub returns-else-is_full-clause-grows : goal.returns-else-is_full-clause-grows
returns-else-is_full-clause-grows g c = grows_nothing _
