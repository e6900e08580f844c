use Rattle.std.proofs.Common.{ap}
use Rattle.ml_store.specs.declared.row.Row.{Row}
use Rattle.ml_repair.proofs.Seeing.{blocker_live}
use Rattle.ml_repair.proofs.engine.Engine.slot_at.Goals as goal

pub row_at-requires : goal.row_at-requires
row_at-requires c = rw (← c.self.view_is) at c.requires

pub returns-clause-slot : goal.returns-clause-slot
returns-clause-slot c r there same = ap (λ (t : Row). t.slot) (c.row_at.ensures r (rw (← c.self.view_is) at there) same)

pub returns-clause-blocker : goal.returns-clause-blocker
returns-clause-blocker c =
    let live = rw (← c.self.view_is) at c.requires in
    rw (← c.self.view_is, c.row_at.ensures live.0 live.1 live.2) (blocker_live c.self.inside.store.rows live.0 c.self.invariant live.1)
