use Rattle.std.proofs.Common.{arith}
use Rattle.ml_spans.proofs.Depth.{low_from_count}
use Rattle.ml_spans.proofs.Entries.{entry_exact}
use Rattle.ml_ratio.proofs.lemmas.Lists.{comes_in}
use Rattle.ml_spans.proofs.Members.{new_from_absent}
use Rattle.ml_spans.proofs.span_tree.SpanTree.insert.Goals as goal

pub put-requires-clause-new : goal.put-requires-clause-new
put-requires-clause-new g c =
    let exact = entry_exact g.met.K.Key.exact g.met.E.Key.exact g.met.V.Key.exact in
    new_from_absent _ exact _ _ (rw (← c.self.view_is) at c.requires.new)

pub put-requires-clause-low : goal.put-requires-clause-low
put-requires-clause-low g c =
    low_from_count g.E.Key.order _ _ c.self.invariant.sound c.self.invariant.counted (omega arith)

pub returns-clause-members : goal.returns-clause-members
returns-clause-members g c = rw (← c.self.view_is) (comes_in c.put.ensures.added)
