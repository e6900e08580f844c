use Rattle.ml_store.proofs.pairs.take_pair.Goals as goal

pub returns-in-Some-clause-pairs : goal.returns-in-Some-clause-pairs
returns-in-Some-clause-pairs c = rw c.in-Some.is c.take_out.ensures.pairs
