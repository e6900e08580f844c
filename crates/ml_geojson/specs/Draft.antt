-- What a feature that is read so far is made of, and how it is added to others.
use Rattle.std.specs.Prelude.{◌≡◌, List, [], ◌∷◌, ◌++◌, length}
use Rattle.ml_ratio.specs.declared.feature.Feature.{Feature}
use Rattle.ml_geojson.specs.Shape.{some_shape_of}
use Rattle.ml_geojson.specs.Collection.{Parts}
use Rattle.ml_geojson.specs.Ids.{is_among, IsIdOf}
use Rattle.ml_geojson.specs.Map.{IsMadeOf, ids}
use Rattle.ml_geojson.specs.declared.draft.Draft.{Draft}

-- its own id, its shape and its properties
abbrev pub parts_of : Draft → Parts
parts_of draft = record { own = draft.own; shape = some_shape_of draft.geometry; props = draft.props }

-- one feature more, of these parts, with the id that it gets
pub record IsAdded (old new : List Feature) (parts : Parts) : Type 0 where
  pub feature : Feature
  pub behind : new ≡ old ++ feature ∷ []
  pub made : IsMadeOf parts feature
  pub named : IsIdOf (is_among (ids old)) (length old) parts.own feature.id
