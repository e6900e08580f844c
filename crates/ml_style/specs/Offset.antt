-- Offsets of boxes.
use Rattle.std.specs.Prelude.{ℤ, pos, negsuc, ◌≤ℤ◌}

-- an offset of a label's box: -256 to 256 pixels
abbrev pub IsOffset : ℤ → Type 0
IsOffset z = (negsuc 255 ≤ℤ z) × (z ≤ℤ pos 256)
