-- One straight box of text.
use Rattle.std.specs.Prelude.{◌≡◌, ℕ, ◌/◌, ℤ, pos, negsuc, ◌+ℤ◌, ◌-ℤ◌, ◌<ℤ◌, ◌⊎◌}
use Rattle.ml_cone.specs.declared.label.BoxPx.{BoxPx}

-- the left side of a box of this width, moved by dx: half the width to the left, rounded down
abbrev pub left : ℤ → ℕ → ℤ
left dx width = dx -ℤ pos (width / 2)

-- its right side
abbrev pub right : ℤ → ℕ → ℤ
right dx width = left dx width +ℤ pos width

-- the box of a text of this width and size, moved by (dx, dy)
pub record IsStraight (dx dy : ℤ) (width size : ℕ) (box : BoxPx) : Type 0 where
  pub left_is : box.l ≡ left dx width
  pub right_is : box.r ≡ right dx width
  pub bottom_is : box.b ≡ left dy size
  pub top_is : box.t ≡ right dy size

-- the box would reach further than 512 pixels to the left or to the right
abbrev pub IsTooWide : ℤ → ℕ → Type 0
IsTooWide dx width = (left dx width <ℤ negsuc 511) ⊎ (pos 512 <ℤ right dx width)
