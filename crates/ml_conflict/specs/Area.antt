-- Areas of the world that hold labels.
use Rattle.std.specs.Prelude.{◌≤ℤ◌}
use Rattle.ml_cone.specs.declared.label.Label.{Label}
use Rattle.ml_conflict.specs.Reach.{Reaches, anchor_on}
use Rattle.ml_conflict.specs.declared.area.Area.{Area}
use Rattle.ml_conflict.specs.declared.area.Side.{Side}
use Rattle.ml_conflict.specs.declared.axis.Axis.{Axis}
use Rattle.ml_conflict.specs.declared.axis.Axis.TheVariants.{Across, Along}

-- the label's anchor lies between the coordinates on the axis, and the label reaches no further from it
pub record IsOnSide (axis : Axis) (a : Label) (side : Side) : Type 0 where
  pub from : side.from ≤ℤ anchor_on axis a
  pub to : anchor_on axis a ≤ℤ side.to
  pub reach : Reaches axis a side.reach

-- the same on both axes
pub record IsInArea (a : Label) (area : Area) : Type 0 where
  pub across : IsOnSide Across a area.across
  pub along : IsOnSide Along a area.along
