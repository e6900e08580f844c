use Rattle.ml_spans.proofs.Depth.{low_from_few}
use Rattle.ml_spans.proofs.span_tree.SpanTree.height.Goals as goal

pub returns-clause-low : goal.returns-clause-low
returns-clause-low g c digits few =
    rw c.height_of.ensures (low_from_few g.E.Key.order _ c.self.invariant.sound digits (rw (← c.self.view_is) at few))
