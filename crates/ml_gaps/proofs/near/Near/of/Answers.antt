use Rattle.ml_gaps.proofs.near.Near.of.Goals as goal

pub returns : goal.returns
returns c = record { site = c.of.ensures; last = c.whole_above.ensures.above }
