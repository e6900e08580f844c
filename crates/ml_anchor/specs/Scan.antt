-- Where rings cross a level line.
use Rattle.std.specs.Prelude.{ℤ, pos, ◌*ℤ◌, Bool, ◌&&◌, if◌then◌else◌, int_le, int_lt, Option, Some, None, List}
use Rattle.std.specs.List.{filter_map, flat_map}
use Rattle.ml_ratio.specs.declared.geometry.Pos.{Pos}
use Rattle.ml_ratio.specs.Floor.{height_on}
use Rattle.ml_anchor.specs.Ring.{edges}

-- the line at half the height h runs between a and b, a below it or on it and b above it
abbrev pub rises : ℤ → Pos → Pos → Bool
rises h a b = int_le (pos 2 *ℤ a.y) h && int_lt h (pos 2 *ℤ b.y)

-- the x at which the straight line from a up to b has half the height h, rounded down
abbrev pub x_at : ℤ → Pos → Pos → ℤ
x_at h a b = height_on (pos 2 *ℤ a.y) a.x (pos 2 *ℤ b.y) b.x h

-- where an edge crosses the line at half the height h, if it goes from one side to the other
abbrev pub crossing : ℤ → Pos × Pos → Option ℤ
crossing h e =
    if rises h e.0 e.1 then Some (x_at h e.0 e.1)
    else (if rises h e.1 e.0 then Some (x_at h e.1 e.0) else None)

-- where a ring crosses the line at half the height h
abbrev pub ring_crossings : ℤ → List Pos → List ℤ
ring_crossings h ring = filter_map (crossing h) (edges ring)

-- where the rings cross the line at half the height h
unfoldable pub crossings : ℤ → List (List Pos) → List ℤ
crossings h rings = flat_map (ring_crossings h) rings
