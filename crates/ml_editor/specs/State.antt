-- A map that is edited, and what an edit makes of it.
use Rattle.std.specs.Prelude.{◌≡◌, ℕ, ◌+◌, ◌^◌, ◌<◌, ◌≤◌, not, List, [], ◌∷◌, ◌++◌, length, map, filter, Contains, if◌then◌else◌}
use Rattle.std.specs.Str.{bytes_eq}
use Rattle.ml_ratio.specs.Limits.{most_labels}
use Rattle.ml_ratio.specs.declared.feature.Feature.{Feature}
use Rattle.ml_geojson.specs.Map.{HaveDifferentIds}
use Rattle.ml_style.specs.declared.style.Style.{Style}
use Rattle.ml_editor.specs.declared.edit.Edit.{Edit}
use Rattle.ml_editor.specs.declared.edit.Edit.TheVariants.{Add, Replace, Remove, Restyle}

-- a style, the features in order, and how many edits were made
pub record State : Type 0 where
  pub style : Style
  pub features : List Feature
  pub rev : ℕ

-- the last revision
abbrev pub last_rev : ℕ
last_rev = 2 ^ 53

-- a feature has the id
abbrev pub HasFeature : List Feature → List ℕ → Type 0
HasFeature features id = (f : Feature) × Contains features f × (f.id ≡ id)

-- the new feature in place of an old one with its id
abbrev pub in_place : Feature → Feature → Feature
in_place new old = if bytes_eq old.id new.id then new else old

-- the features after an edit: one more at the end, one in the place of that with its id, all but that with the id, or the same
abbrev pub features_after : List Feature → Edit → List Feature
features_after features (Add f) = features ++ f ∷ []
features_after features (Replace f) = map (in_place f) features
features_after features (Remove id) = filter (λ f. not (bytes_eq f.id id)) features
features_after features (Restyle style) = features

-- the style after an edit: the new one, or the same
abbrev pub style_after : Style → Edit → Style
style_after style (Add f) = style
style_after style (Replace f) = style
style_after style (Remove id) = style
style_after style (Restyle new) = new

-- the state after an edit
abbrev pub step : State → Edit → State
step s edit = record { style = style_after s.style edit; features = features_after s.features edit; rev = s.rev + 1 }

-- the first state of a map
abbrev pub first_state : Style → List Feature → State
first_state style features = record { style = style; features = features; rev = 0 }

-- the features allow the edit: what comes is new and one of so many, and what is replaced or goes is there
abbrev pub IsAllowed : List Feature → Edit → Type 0
IsAllowed features (Add f) = ¬ (HasFeature features f.id) × (length features < most_labels)
IsAllowed features (Replace f) = HasFeature features f.id
IsAllowed features (Remove id) = HasFeature features id
IsAllowed features (Restyle style) = Unit {0}

-- what holds of each state that can be reached
pub record IsState (s : State) : Type 0 where
  pub own_ids : HaveDifferentIds s.features
  pub few : length s.features ≤ most_labels
  pub revision : s.rev ≤ last_rev
