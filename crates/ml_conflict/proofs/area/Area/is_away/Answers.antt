use Rattle.ml_conflict.specs.declared.axis.Axis.TheVariants.{Across, Along}
use Rattle.ml_conflict.proofs.area.Area.is_away.Goals as goal

pub returns-then-is_away : goal.returns-then-is_away
returns-then-is_away c is low high u one other = c.is_away.ensures is Across low high u one.across other.across

pub returns-else-is_away : goal.returns-else-is_away
returns-else-is_away c is low high u one other = c.is_away-else-is_away.ensures is Along low high u one.along other.along
