-- The features of a group, in plain numbers and texts.
use Rattle.std.specs.Prelude.{ℕ, ℤ, pos, ◌+ℤ◌, List, [], ◌∷◌, ◌++◌, flat_map, Option, Some, codes, decimal}
use Rattle.ml_ratio.specs.declared.feature.Feature.{Feature}
use Rattle.ml_ratio.specs.declared.feature.Prop.{Prop}
use Rattle.ml_ratio.specs.declared.feature.Scalar.TheVariants.{Num, Str}
use Rattle.ml_geojson.specs.Shape.{Place, Shape, point, line, polygon, some_shape_of}
use Rattle.ml_gen.specs.Group.{groups_in}
use Rattle.ml_gen.specs.declared.group.Group.{Group}

-- all that tells one feature from another: its id, its shape and its properties
pub record Thing : Type 0 where
  pub id : List ℕ
  pub shape : Option Shape
  pub props : List Prop

-- what a feature is
abbrev pub thing_of : Feature → Thing
thing_of f = record { id = f.id; shape = some_shape_of f.geometry; props = f.props }

-- the id of a group's feature: g, the number of the group, and a letter
abbrev pub id_of : Group → List ℕ → List ℕ
id_of group letter = codes "g" ++ (decimal group.number ++ letter)

-- a property that is a text
abbrev pub text_prop : List ℕ → List ℕ → Prop
text_prop key value = record { key = key; value = Str value }

-- a property that is a number
abbrev pub number_prop : List ℕ → List ℕ → Prop
number_prop key value = record { key = key; value = Num value }

-- the properties of a town with so many inhabitants
abbrev pub town_props : List ℕ → List Prop
town_props pop = text_prop (codes "name") (codes "ab") ∷ text_prop (codes "place") (codes "city") ∷ number_prop (codes "pop") pop ∷ []

-- the properties of what has only a name
abbrev pub name_props : List ℕ → List Prop
name_props name = text_prop (codes "name") name ∷ []

-- the place so far east and north of a group
abbrev pub place_from : Group → ℤ → ℤ → Place
place_from group east north = (group.x +ℤ east, group.y +ℤ north)

-- a town of a group, so far east of it
abbrev pub town : Group → List ℕ → ℤ → List ℕ → Thing
town group letter east pop = record { id = id_of group letter; shape = Some (point (place_from group east (pos 0))); props = town_props pop }

-- the first town of a group, which is edited
abbrev pub first_town : Group → Thing
first_town group = town group (codes "a") (pos 0) (codes "3")

-- the bends of a group's river
abbrev pub bends : Group → List Place
bends group = place_from group (pos 0) (pos 4000000) ∷ place_from group (pos 1000000) (pos 4100000) ∷ place_from group (pos 2000000) (pos 4000000) ∷ []

-- the river of a group
abbrev pub river : Group → Thing
river group = record { id = id_of group (codes "r"); shape = Some (line (bends group)); props = name_props (codes "river") }

-- the four corners of a group's area, and the first of them again
abbrev pub corners : Group → List Place
corners group =
    place_from group (pos 0) (pos 7000000) ∷ place_from group (pos 1000000) (pos 7000000) ∷ place_from group (pos 1000000) (pos 8000000)
    ∷ place_from group (pos 0) (pos 8000000) ∷ place_from group (pos 0) (pos 7000000) ∷ []

-- the area of a group
abbrev pub area : Group → Thing
area group = record { id = id_of group (codes "p"); shape = Some (polygon (corners group ∷ [])); props = name_props (codes "area") }

-- the features of a group, in order
abbrev pub things_in : Group → List Thing
things_in group =
    first_town group ∷ town group (codes "b") (pos 400) (codes "2") ∷ town group (codes "c") (pos 800) (codes "1") ∷ river group ∷ area group ∷ []

-- the features of a map, group by group
abbrev pub map_of : ℕ → ℕ → List Thing
map_of n seed = flat_map things_in (groups_in n seed)
