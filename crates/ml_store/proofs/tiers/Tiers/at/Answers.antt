use Rattle.ml_store.proofs.Rings.{place_low, number_is}
use Rattle.ml_store.proofs.tiers.Tiers.at.Goals as goal

pub cell_at-requires-clause-place : goal.cell_at-requires-clause-place
cell_at-requires-clause-place c = place_low c.self.inside.cells.items c.self.inside.cell_of.items c.self.inside.heads.items c.args.k c.self.invariant (rw (← c.self.view_is) at c.requires)

pub returns : goal.returns
returns c =
    rw (← c.self.view_is) (number_is c.self.inside.cells.items c.self.inside.cell_of.items c.self.inside.heads.items c.args.k c.cell_at.result c.index.result.now c.self.invariant
    (rw (← c.self.view_is) at c.requires) (rw c.deref.ensures.value at c.cell_at.ensures.cell) c.index.ensures)
