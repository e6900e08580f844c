use Rattle.ml_spans.proofs.Greatest.{greatest_join}
use Rattle.ml_spans.proofs.ends.keep_greatest.Goals as goal

pub returns-clause-greatest : goal.returns-clause-greatest
returns-clause-greatest g c =
    rw c.in-Some.is (greatest_join g.met.E.Key.total _ _ c.in-Some.content.entry _ _ c.greatest_with.ensures c.greatest_with-content.ensures)
