-- A feature's properties.
use Rattle.std.specs.Prelude.{ℕ, List, [], ◌∷◌, Option, Some, None}
use Rattle.ml_json.specs.Tree.{Tree, null, flag, num, str, map, Pairs, no_pairs, pair}
use Rattle.ml_ratio.specs.declared.feature.Prop.{Prop}
use Rattle.ml_ratio.specs.declared.feature.Scalar.{Scalar}
use Rattle.ml_ratio.specs.declared.feature.Scalar.TheVariants.{Null, Flag, Num, Str}

-- the value of a property; lists and maps are none
abbrev pub scalar : Tree → Option Scalar
scalar null = Some Null
scalar (flag b) = Some (Flag b)
scalar (num text) = Some (Num text)
scalar (str text) = Some (Str text)
scalar tree = None

-- a property before others, where its value is one
abbrev pub with_scalar : List ℕ → Option Scalar → List Prop → List Prop
with_scalar key None props = props
with_scalar key (Some value) props = record { key = key; value = value } ∷ props

-- the members whose values are no lists and no maps
abbrev pub scalars : Pairs → List Prop
scalars no_pairs = []
scalars (pair key tree ps) = with_scalar key (scalar tree) (scalars ps)

-- the properties; absent, null or no map, there are none
abbrev pub properties : Option Tree → List Prop
properties (Some (map ps)) = scalars ps
properties value = []
