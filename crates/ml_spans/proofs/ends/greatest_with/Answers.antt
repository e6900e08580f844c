use Rattle.ml_spans.proofs.Greatest.{greatest_with_one}
use Rattle.ml_spans.proofs.Forks.{fork_greatest}
use Rattle.ml_spans.proofs.ends.greatest_with.Goals as goal

pub returns-in-Some : goal.returns-in-Some
returns-in-Some g c =
    greatest_with_one g.met.E.Key.total _ _ _ _ (fork_greatest c.in-Fork.is c.deref.ensures c.in-Some.is c.requires) c.greater_of.ensures.first c.greater_of.ensures.second c.greater_of.ensures.own
