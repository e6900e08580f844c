-- The features of a map by their numbers, and how many more there is room for.
use Rattle.std.specs.Prelude.{◌≡◌, ℕ, ◌-◌, ◌<◌, min, List, [], ◌∷◌, length, All, cond, nat_eq, Option, None, Some}
use Rattle.std.specs.List.{IsDistinct}
use Rattle.std.specs.Map.{keys_of, values_of, lookup}
use Rattle.std.specs.Str.{bytes_eq}
use Rattle.ml_ratio.specs.declared.feature.Feature.{Feature}
use Rattle.ml_geojson.specs.Map.{ids}

-- what contracts see of the features: themselves in order, and how many may come in without memory
pub record Kept : Type 0 where
  pub list : List Feature
  pub room : ℕ

-- a place more: one that was left stands for no feature
abbrev pub with_place : ℕ → Option Feature → List (ℕ × Feature) → List (ℕ × Feature)
with_place n None others = others
with_place n (Some f) others = (n, f) ∷ others

-- the features that have places, in the order of these, each by its number
abbrev pub standing : List (ℕ × Option Feature) → List (ℕ × Feature)
standing [] = []
standing (e ∷ es) = with_place e.0 e.1 (standing es)

-- the number of the first feature with the id
abbrev pub number_with : List ℕ → List (ℕ × Feature) → Option ℕ
number_with id [] = None
number_with id (e ∷ es) = cond (bytes_eq id e.1.id) (Some e.0) (number_with id es)

-- how many may come in, where there are so many places and names to spare, and numbers from the next one on
abbrev pub room_left : ℕ → ℕ → ℕ → ℕ
room_left places names next = min (min places names) (18446744073709551615 - next)

-- each feature is found by its id, no two places have one number, all have numbers below the next one, and so many are taken
pub record AreNumbered (places : List (ℕ × Option Feature)) (names : List (List ℕ × ℕ)) (next taken : ℕ) : Type 0 where
  pub differ : IsDistinct nat_eq (keys_of places)
  pub low : All (λ n. n < next) (keys_of places)
  pub found : (id : List ℕ) → lookup (bytes_eq id) names ≡ number_with id (standing places)
  pub own_ids : IsDistinct bytes_eq (ids (values_of (standing places)))
  pub counted : taken ≡ length (standing places)
