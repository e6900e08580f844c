use Rattle.std.proofs.Common.{refl}
use Rattle.ml_spans.specs.Spans.{entry_of}
use Rattle.ml_store.proofs.pairs.put_pair.Goals as goal

pub put_in-requires-clause-new : goal.put_in-requires-clause-new
put_in-requires-clause-new c there = c.requires.new (entry_of c.in-Some.b 0 c.args.number) (rw c.in-Some.is refl) there

pub returns-in-Some-clause-pairs : goal.returns-in-Some-clause-pairs
returns-in-Some-clause-pairs c = rw c.in-Some.is c.put_in.ensures.pairs
