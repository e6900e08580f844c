use Rattle.std.proofs.Common.{refl}
use Rattle.ml_tests.proofs.spans.put.Goals as goal

pub insert-requires-clause-new : goal.insert-requires-clause-new
insert-requires-clause-new g c = λ there. ((c.remove-was.ensures.members _).0 there).1 refl
