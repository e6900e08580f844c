use Rattle.std.proofs.Common.{inl, refl}
use Rattle.ml_repair.proofs.Noting.{same_ratio}
use Rattle.ml_repair.proofs.changes.push_moved.Goals as goal

pub returns-else-differs : goal.returns-else-differs
returns-else-differs c = inl (same_ratio c.args.row.now.slot.until c.args.slot.until c.if-differs.ensures, refl)
