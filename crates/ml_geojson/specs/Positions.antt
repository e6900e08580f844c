-- Positions, and rings of them, as lists of JSON numbers; each reading gives a value or the first fault from left to right.
use Rattle.std.specs.Prelude.{ℕ, ℤ, List, [], ◌∷◌, ◌++◌, length, Bool, true, false, nat_lt, ◌&&◌, filter, Option, Some, None, Result, Ok, Err, if◌then◌else◌}
use Rattle.std.specs.Ordering.{int_eq}
use Rattle.ml_json.specs.Tree.{Tree, num, list, Trees, none, more}
use Rattle.ml_json.specs.Decimal.{e7_of}
use Rattle.ml_geojson.specs.Shape.{Place}
use Rattle.ml_geojson.specs.declared.fault.GeoFault.{GeoFault}
use Rattle.ml_geojson.specs.declared.fault.GeoFault.TheVariants.{BadGeometry, OutOfRange, ShortRing}

-- a reading of some value: the value, or a fault
abbrev pub Reading : Type 0 → Type 0
Reading X = Result X GeoFault

-- what is made of the value
abbrev pub then_made : {X Y : Type 0} → (X → Y) → Reading X → Reading Y
then_made f (Ok x) = Ok (f x)
then_made f (Err fault) = Err fault

-- what is read further, behind the value
abbrev pub then_read : {X Y : Type 0} → (X → Reading Y) → Reading X → Reading Y
then_read f (Ok x) = f x
then_read f (Err fault) = Err fault

-- each item in order; the first fault decides
abbrev pub each : {X : Type 0} → (Tree → Reading X) → Trees → Reading (List X)
each f none = Ok []
each f (more t ts) = then_read (λ x. then_made (λ xs. x ∷ xs) (each f ts)) (f t)

-- a place of two coordinates, where both are in the world
abbrev pub in_world : ℕ → Option ℤ → Option ℤ → Reading Place
in_world k (Some x) (Some y) = Ok (x, y)
in_world k (Some x) None = Err (OutOfRange k)
in_world k None y = Err (OutOfRange k)

-- the text of a number
abbrev pub number : Tree → Option (List ℕ)
number (num text) = Some text
number tree = None

-- a place of two numbers
abbrev pub numbers : ℕ → Option (List ℕ) → Option (List ℕ) → Reading Place
numbers k (Some x) (Some y) = in_world k (e7_of x) (e7_of y)
numbers k (Some x) None = Err (BadGeometry k)
numbers k None y = Err (BadGeometry k)

-- a position: the first two items are numbers, longitude and latitude
abbrev pub position : ℕ → Trees → Reading Place
position k none = Err (BadGeometry k)
position k (more x none) = Err (BadGeometry k)
position k (more x (more y rest)) = numbers k (number x) (number y)

-- what the items of a list read as; anything but a list is at fault
abbrev pub in_list : {X : Type 0} → ℕ → (Trees → Reading X) → Tree → Reading X
in_list k f (list items) = f items
in_list k f tree = Err (BadGeometry k)

-- a list of positions
abbrev pub positions : ℕ → Trees → Reading (List Place)
positions k items = each (in_list k (position k)) items

-- the same place
abbrev pub is_same : Place → Place → Bool
is_same a b = int_eq a.0 b.0 && int_eq a.1 b.1

-- the last of some places
abbrev pub last_place : Place → List Place → Place
last_place first [] = first
last_place first (next ∷ rest) = last_place next rest

-- a ring whose last place is the first; where it differs, the first comes again
abbrev pub closed : List Place → List Place
closed [] = []
closed (first ∷ rest) = if is_same first (last_place first rest) then first ∷ rest else ((first ∷ rest) ++ first ∷ [])

-- a closed ring of at least four places, or none at all
abbrev pub long_ring : ℕ → List Place → Reading (List Place)
long_ring k [] = Ok []
long_ring k (first ∷ rest) = if nat_lt (length (first ∷ rest)) 4 then Err (ShortRing k) else Ok (first ∷ rest)

-- a ring
abbrev pub ring : ℕ → Trees → Reading (List Place)
ring k items = then_read (λ places. long_ring k (closed places)) (positions k items)

-- whether there is a part
abbrev pub has_parts : {X : Type 0} → List X → Bool
has_parts [] = false
has_parts (part ∷ parts) = true

-- the parts that are not empty
abbrev pub filled : {X : Type 0} → List (List X) → List (List X)
filled parts = filter has_parts parts

-- the lines of several, but for empty ones
abbrev pub line_parts : ℕ → Trees → Reading (List (List Place))
line_parts k items = then_made filled (each (in_list k (positions k)) items)

-- the rings of a polygon, but for empty ones
abbrev pub rings : ℕ → Trees → Reading (List (List Place))
rings k items = then_made filled (each (in_list k (ring k)) items)

-- the polygons of several, but for empty ones
abbrev pub polygon_parts : ℕ → Trees → Reading (List (List (List Place)))
polygon_parts k items = then_made filled (each (in_list k (rings k)) items)
