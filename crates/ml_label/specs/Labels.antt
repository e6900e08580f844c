-- The labels of a map.
use Rattle.std.specs.Prelude.{◌≡◌, ℕ, ◌<◌, List, [], ◌∷◌, length, slice_index_or, Result, Ok, Err}
use Rattle.std.specs.List.Sorted.{IsPermutation}
use Rattle.ml_ratio.specs.declared.feature.Feature.{Feature}
use Rattle.ml_cone.specs.Label.{IsLabelList}
use Rattle.ml_cone.specs.declared.label.Label.{Label}
use Rattle.ml_style.specs.declared.style.Style.{Style}
use Rattle.ml_label.specs.Labelling.{IsLabelling}
use Rattle.ml_label.specs.declared.reason.Reason.{Reason}

-- for each feature its label, or why it has none
pub record AreLabellings (style : Style) (features : List Feature) (answers : List (Result Label Reason)) : Type 0 where
  pub one_each : length answers ≡ length features
  pub each : (k : ℕ) (f : Feature) (a : Result Label Reason) → k < length features → IsLabelling style (slice_index_or features k f) (slice_index_or answers k a)

-- the labels among some answers
abbrev pub labels_in : List (Result Label Reason) → List Label
labels_in [] = []
labels_in (Ok label ∷ answers) = label ∷ labels_in answers
labels_in (Err reason ∷ answers) = labels_in answers

-- the labels of features, in the order of the features
pub record AreUnsorted (style : Style) (features : List Feature) (labels : List Label) : Type 0 where
  pub answers : List (Result Label Reason)
  pub answered : AreLabellings style features answers
  pub labels_are : labels ≡ labels_in answers

-- the labels of features, in priority order
pub record AreLabelsOf (style : Style) (features : List Feature) (labels : List Label) : Type 0 where
  pub unsorted : List Label
  pub made : AreUnsorted style features unsorted
  pub same : IsPermutation unsorted labels
  pub ordered : IsLabelList labels
