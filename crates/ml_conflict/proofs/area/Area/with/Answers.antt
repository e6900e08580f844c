use Rattle.ml_conflict.specs.declared.axis.Axis.TheVariants.{Across, Along}
use Rattle.ml_conflict.proofs.area.Area.with.Goals as goal

pub returns-clause-first : goal.returns-clause-first
returns-clause-first c a in' = record { across = c.with.ensures.first Across a in'.across; along = c.with-2.ensures.first Along a in'.along }

pub returns-clause-second : goal.returns-clause-second
returns-clause-second c a in' = record { across = c.with.ensures.second Across a in'.across; along = c.with-2.ensures.second Along a in'.along }
