-- How far labels reach from their anchors, and what is too far away for them.
use Rattle.std.specs.Prelude.{ℕ, ℤ, pos, neg_ℤ, ◌+◌, ◌*◌, ◌≤◌, ◌-ℤ◌, ◌≤ℤ◌, All, unsigned_abs}
use Rattle.ml_ratio.specs.declared.ratio.Ratio.{Ratio}
use Rattle.ml_cone.specs.Overlap.{widened}
use Rattle.ml_cone.specs.declared.label.BoxPx.{BoxPx}
use Rattle.ml_cone.specs.declared.label.Label.{Label}
use Rattle.ml_conflict.specs.declared.axis.Axis.{Axis}
use Rattle.ml_conflict.specs.declared.axis.Axis.TheVariants.{Across, Along}

-- the box lies within so many pixels of the anchor, to the west and to the east, or to the south and to the north
abbrev pub IsWithin : Axis → ℕ → BoxPx → Type 0
IsWithin Across r p = (neg_ℤ (pos r) ≤ℤ p.l) × (p.r ≤ℤ pos r)
IsWithin Along r p = (neg_ℤ (pos r) ≤ℤ p.b) × (p.t ≤ℤ pos r)

-- the boxes of the label, widened by its margin, lie within so many pixels of its anchor
abbrev pub Reaches : Axis → Label → ℕ → Type 0
Reaches axis a r = All (λ p. IsWithin axis r (widened a p)) a.boxes

-- the label's anchor on an axis
abbrev pub anchor_on : Axis → Label → ℤ
anchor_on Across a = a.x
anchor_on Along a = a.y

-- the way between two coordinates is at least what so many pixels cover at the next fraction above the bound with its denominator
abbrev pub IsFar : ℤ → ℤ → ℕ → Ratio → Type 0
IsFar u v pixels bound = pixels * (bound.num + 1) ≤ unsigned_abs (u -ℤ v) * bound.den
