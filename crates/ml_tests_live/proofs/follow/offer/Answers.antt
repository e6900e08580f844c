use Rattle.ml_tests_live.proofs.follow.offer.Goals as goal

pub offer-requires-clause-ordered : goal.offer-requires-clause-ordered
offer-requires-clause-ordered g c = c.requires.ordered
