use Rattle.std.proofs.Common.{arith, ◌*◌}
use Rattle.ml_store.proofs.Rings.{place_low}
use Rattle.ml_store.proofs.tiers.Tiers.pass_on.Goals as goal

pub pass_on-requires-clause-to_block : goal.pass_on-requires-clause-to_block
pass_on-requires-clause-to_block c =
    let low = place_low c.self.inside.cells.items c.self.inside.cell_of.items c.self.inside.heads.items (128 * c.args.to) c.self.invariant
    (rw (← c.self.view_is) at c.requires.to_block) in
    omega arith
