use Rattle.std.proofs.Common.{arith}
use Rattle.ml_store.proofs.Rings.{length_tiers, place_is}
use Rattle.ml_store.proofs.tiers.Tiers.place_of.Goals as goal

pub returns-clause-place : goal.returns-clause-place
returns-clause-place c =
    let many = length_tiers c.self.inside.cells.items c.self.inside.cell_of.items c.self.inside.heads.items c.self.invariant in
    let within = c.place_at.ensures.within in
    rw (← c.self.view_is) (omega arith)

pub returns-clause-number : goal.returns-clause-number
returns-clause-number c =
    rw (← c.self.view_is) (place_is c.self.inside.cells.items c.self.inside.cell_of.items c.self.inside.heads.items c.args.number c.index.result.now c.place_at.result c.self.invariant
    c.requires c.index.ensures (rw c.deref.ensures.value at c.place_at.ensures.cell) c.place_at.ensures.within)
