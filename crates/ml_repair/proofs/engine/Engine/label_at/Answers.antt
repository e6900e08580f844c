use Rattle.std.proofs.Common.{ap}
use Rattle.ml_store.specs.declared.row.Row.{Row}
use Rattle.ml_repair.proofs.engine.Engine.label_at.Goals as goal

pub row_at-requires : goal.row_at-requires
row_at-requires c = rw (← c.self.view_is) at c.requires

pub returns : goal.returns
returns c r there same = ap (λ (t : Row). t.label) (c.row_at.ensures r (rw (← c.self.view_is) at there) same)
