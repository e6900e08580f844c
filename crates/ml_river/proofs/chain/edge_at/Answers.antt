use Rattle.ml_river.proofs.ChainLemmas.{edge_inside, edge_end}
use Rattle.ml_river.proofs.chain.edge_at.Goals as goal

pub returns-then-k-advances-clause-value : goal.returns-then-k-advances-clause-value
returns-then-k-advances-clause-value c =
    edge_inside c.args.class c.args.advances.now c.args.k c.args.before c.from.result c.from-then-k-advances.result c.if-k-advances.true c.requires.so_far c.from.ensures c.from-then-k-advances.ensures

pub returns-else-k-advances-clause-value : goal.returns-else-k-advances-clause-value
returns-else-k-advances-clause-value c =
    edge_end c.args.class c.args.advances.now c.args.k c.args.before c.width_of.result c.if-k-advances.false c.requires.so_far c.width_of.ensures.value
