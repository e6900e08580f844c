-- Rings: their edges and their bounding boxes.
use Rattle.std.specs.Prelude.{◌≡◌, ℤ, pos, ◌-ℤ◌, ◌*ℤ◌, ◌≤ℤ◌, List, [], ◌∷◌, map, drop}
use Rattle.std.specs.List.{fold, zip}
use Rattle.std.specs.Int.{int_min, int_max}
use Rattle.ml_ratio.specs.World.{IsInWorld}
use Rattle.ml_ratio.specs.declared.geometry.Pos.{Pos}

-- the edges of a ring: each position with the next
abbrev pub edges : List Pos → List (Pos × Pos)
edges ring = zip ring (drop 1 ring)

-- the least of some numbers
abbrev pub least : List ℤ → ℤ
least [] = pos 0
least (x ∷ xs) = fold int_min x xs

-- the greatest of some numbers
abbrev pub greatest : List ℤ → ℤ
greatest [] = pos 0
greatest (x ∷ xs) = fold int_max x xs

-- the least x of a ring
unfoldable pub west : List Pos → ℤ
west ring = least (map (λ p. p.x) ring)

-- the greatest x of a ring
unfoldable pub east : List Pos → ℤ
east ring = greatest (map (λ p. p.x) ring)

-- the least y of a ring
unfoldable pub south : List Pos → ℤ
south ring = least (map (λ p. p.y) ring)

-- the greatest y of a ring
unfoldable pub north : List Pos → ℤ
north ring = greatest (map (λ p. p.y) ring)

-- the area of the bounding box of a ring
abbrev pub box_area : List Pos → ℤ
box_area ring = (east ring -ℤ west ring) *ℤ (north ring -ℤ south ring)

-- the four bounds of a ring
pub record AreBoundsOf (ring : List Pos) (w e s n : ℤ) : Type 0 where
  pub west_is : w ≡ west ring
  pub east_is : e ≡ east ring
  pub south_is : s ≡ south ring
  pub north_is : n ≡ north ring

-- four bounds in the world, west before east and south before north
pub record AreInOrder (w e s n : ℤ) : Type 0 where
  pub west_in : IsInWorld w
  pub east_in : IsInWorld e
  pub south_in : IsInWorld s
  pub north_in : IsInWorld n
  pub across : w ≤ℤ e
  pub up : s ≤ℤ n
