use Rattle.ml_store.proofs.Rings.{place_low}
use Rattle.ml_store.proofs.tiers.Tiers.carry_back.Goals as goal

pub carry_back-requires-clause-from_place : goal.carry_back-requires-clause-from_place
carry_back-requires-clause-from_place c =
    place_low c.self.inside.cells.items c.self.inside.cell_of.items c.self.inside.heads.items c.args.from c.self.invariant
    (rw (← c.self.view_is) at c.requires.from_place)
