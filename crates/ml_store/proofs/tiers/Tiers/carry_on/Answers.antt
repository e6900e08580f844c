use Rattle.ml_store.proofs.Rings.{place_low}
use Rattle.ml_store.proofs.tiers.Tiers.carry_on.Goals as goal

pub carry_on-requires-clause-to_place : goal.carry_on-requires-clause-to_place
carry_on-requires-clause-to_place c =
    place_low c.self.inside.cells.items c.self.inside.cell_of.items c.self.inside.heads.items c.args.to c.self.invariant
    (rw (← c.self.view_is) at c.requires.to_place)
