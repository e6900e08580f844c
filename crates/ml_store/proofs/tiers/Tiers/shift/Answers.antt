use Rattle.ml_store.proofs.Rings.{length_tiers}
use Rattle.ml_store.proofs.tiers.Tiers.shift.Goals as goal

pub move_back-requires-clause-all : goal.move_back-requires-clause-all
move_back-requires-clause-all c = rw (← c.self.view_is) (length_tiers c.self.inside.cells.items c.self.inside.cell_of.items c.self.inside.heads.items
    c.self.invariant)

pub move_on-requires-clause-all : goal.move_on-requires-clause-all
move_on-requires-clause-all c = rw (← c.self.view_is) (length_tiers c.self.inside.cells.items c.self.inside.cell_of.items c.self.inside.heads.items
    c.self.invariant)

pub move_within-requires-clause-all : goal.move_within-requires-clause-all
move_within-requires-clause-all c = rw (← c.self.view_is) (length_tiers c.self.inside.cells.items c.self.inside.cell_of.items
    c.self.inside.heads.items c.self.invariant)
