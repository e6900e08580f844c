-- The area that tiles side by side cover.
use Rattle.std.specs.Prelude.{ℕ, ℤ, ◌≡◌, ◌*◌, ◌^◌, pos, ◌+ℤ◌, ◌*ℤ◌, ◌<ℤ◌, ◌≤ℤ◌, Any}
use Rattle.std.proofs.Common.{lit<}
use Rattle.std.proofs.lemmas.Nat.{pow_pos}
use Rattle.ml_ratio.specs.Fraction.{Fraction}
use Rattle.ml_cone.specs.declared.label.Label.{Label}
use Rattle.ml_tile.specs.Place.{IsTile}

-- the side of a tile of depth z, in world units
abbrev pub side : ℕ → ℕ
side z = 1024 * 2 ^ z

-- the scale of the tiles of depth z
abbrev pub scale : ℕ → Fraction
scale z = record { num = 2 ^ z; den = 1; positive = lit< tt }

-- at this scale the open side (x + l*s, x + r*s) meets the open stretch of the columns, or rows, from i to k
abbrev pub SideInColumns : ℤ → ℤ → ℤ → ℕ → ℤ → ℤ → Type 0
SideInColumns x l r z i k = ((i *ℤ pos (side z)) <ℤ (x +ℤ (r *ℤ pos (2 ^ z)))) × ((x +ℤ (l *ℤ pos (2 ^ z))) <ℤ ((k +ℤ pos 1) *ℤ pos (side z)))

-- a column, or row, from one to another
abbrev pub IsBetween : ℤ → ℤ → ℤ → Type 0
IsBetween i from to = (from ≤ℤ i) × (i ≤ℤ to)

-- there are all tiles of the columns from i to k and the rows from j to m
abbrev pub AreTiles : ℕ → ℤ → ℤ → ℤ → ℤ → Type 0
AreTiles z i k j m = (column row : ℤ) → IsBetween column i k → IsBetween row j m → IsTile z column row

-- at this scale a box of the label has an open rectangle that meets the open rectangle of these columns and rows
abbrev pub IsInArea : Label → ℕ → ℤ → ℤ → ℤ → ℤ → Type 0
IsInArea a z i k j m = Any (λ p. SideInColumns a.x p.l p.r z i k × SideInColumns a.y p.b p.t z j m) a.boxes
