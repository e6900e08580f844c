use Rattle.std.proofs.Common.{arith, ◌*◌}
use Rattle.ml_store.proofs.Rings.{place_low}
use Rattle.ml_store.proofs.tiers.Tiers.pass_back.Goals as goal

pub pass_back-requires-clause-from_block : goal.pass_back-requires-clause-from_block
pass_back-requires-clause-from_block c =
    let low = place_low c.self.inside.cells.items c.self.inside.cell_of.items c.self.inside.heads.items (128 * c.args.from) c.self.invariant
    (rw (← c.self.view_is) at c.requires.from_block) in
    omega arith
