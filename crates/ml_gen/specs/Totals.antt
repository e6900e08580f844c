-- What a generated map that is edited comes to.
use Rattle.std.specs.Prelude.{◌≡◌, ℕ, List, ◌++◌, length, map, sum_by, codes, decimal}
use Rattle.ml_ratio.specs.declared.feature.Feature.{Feature}
use Rattle.ml_cone.specs.declared.label.Label.{Label}
use Rattle.ml_geojson.specs.Map.{IsMap}
use Rattle.ml_geojson.specs.Text.{collection_text}
use Rattle.ml_label.specs.Labels.{AreLabelsOf}
use Rattle.ml_style.specs.declared.style.Style.{Style}
use Rattle.ml_editor.specs.State.{State, first_state}
use Rattle.ml_gen.specs.Thing.{Thing, thing_of, map_of}
use Rattle.ml_gen.specs.Turn.{turns, Run}
use Rattle.ml_gen.specs.declared.counts.Counts.{Counts}
use Rattle.ml_gen.specs.declared.totals.Totals.{Totals}

-- the one features are those that the text of the others is read as
pub record AreReadBack (made read : List Feature) : Type 0 where
  pub text : List ℕ
  pub text_is : text ≡ collection_text made
  pub is_map : IsMap text read

-- the features are those that the text of such things is read as
pub record AreRead (things : List Thing) (read : List Feature) : Type 0 where
  pub made : List Feature
  pub are : map thing_of made ≡ things
  pub back : AreReadBack made read

-- the numbers of a state: its features, its labels and its revision
pub record HasNumbers (s : State) (features labels rev : ℕ) : Type 0 where
  pub features_are : features ≡ length s.features
  pub all : List Label
  pub all_are : AreLabelsOf s.style s.features all
  pub labels_are : labels ≡ length all
  pub rev_is : rev ≡ s.rev

-- what comes of edits: how many they are, and the sums of what each comes to
pub record AreSums (each : List Counts) (edits shown changes evaluated : ℕ) : Type 0 where
  pub edits_are : edits ≡ length each
  pub shown_are : shown ≡ sum_by (λ counts. counts.shown) each
  pub changes_are : changes ≡ sum_by (λ counts. counts.changes) each
  pub evaluated_are : evaluated ≡ sum_by (λ counts. counts.evaluated) each

-- the generated map of n groups is read, loaded under the style and edited: these are its totals
pub record AreTotals (n seed : ℕ) (style : Style) (totals : Totals) : Type 0 where
  pub read : List Feature
  pub are_read : AreRead (map_of n seed) read
  pub each : List Counts
  pub last : State
  pub run : Run (first_state style read) (turns n seed) each last
  pub groups : totals.groups ≡ n
  pub numbers : HasNumbers last totals.features totals.labels totals.rev
  pub sums : AreSums each totals.edits totals.shown totals.changes totals.evaluated

-- the line of totals
abbrev pub totals_text : Totals → List ℕ
totals_text t =
    codes "groups " ++ (decimal t.groups ++ (codes " features " ++ (decimal t.features ++ (codes " labels " ++ (decimal t.labels
    ++ (codes " edits " ++ (decimal t.edits ++ (codes " shown " ++ (decimal t.shown ++ (codes " changes " ++ (decimal t.changes
    ++ (codes " evaluated " ++ (decimal t.evaluated ++ (codes " rev " ++ (decimal t.rev ++ codes "\n")))))))))))))))
