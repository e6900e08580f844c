-- The small data that other data is made of.
use Rattle.std.specs.Prelude.{ℤ, List, ◌∷◌, [], map}
use Rattle.serde_json.specs.Data.{Data, number, array}
use Rattle.serde_json.specs.Find.{of_integer}
use Rattle.serde_json.specs.View.{items_of}
use Rattle.ml_cone.specs.declared.label.BoxPx.{BoxPx}

-- whole numbers, in order
abbrev pub numbers : List ℤ → Data
numbers values = array (items_of (map (λ z. number (of_integer z)) values))

-- a box: left, bottom, right and top
abbrev pub box_data : BoxPx → Data
box_data p = numbers (p.l ∷ p.b ∷ p.r ∷ p.t ∷ [])

-- boxes, in order
abbrev pub boxes_data : List BoxPx → Data
boxes_data boxes = array (items_of (map box_data boxes))
