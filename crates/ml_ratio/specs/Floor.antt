use Rattle.std.specs.Prelude.{ℤ, ◌+ℤ◌, ◌-ℤ◌, ◌*ℤ◌}
use Rattle.std.specs.Int.{int_div_euclid}

-- the greatest whole number that is at most p/d, for d above 0
unfoldable pub floor : ℤ → ℤ → ℤ
floor p d = int_div_euclid p d

-- the height at t of the straight line through (u, v) and (w, z), which is v + (z - v) * (t - u) / (w - u), rounded down, for u below w
unfoldable pub height_on : ℤ → ℤ → ℤ → ℤ → ℤ → ℤ
height_on u v w z t = v +ℤ floor ((z -ℤ v) *ℤ (t -ℤ u)) (w -ℤ u)
