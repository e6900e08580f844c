-- How the features of a map stand.
use Rattle.std.specs.Prelude.{◌≡◌, ℕ, List, Contains, Option, MatchOption, Err}
use Rattle.ml_ratio.specs.declared.feature.Feature.{Feature}
use Rattle.ml_label.specs.Labelling.{IsLabelling}
use Rattle.ml_store.specs.Rows.{IsNumberOf}
use Rattle.ml_editor.specs.State.{HasFeature}
use Rattle.ml_editor.specs.Editing.{Editing}
use Rattle.ml_editor.specs.declared.standing.Standing.{Standing}
use Rattle.ml_editor.specs.declared.standing.Standing.TheVariants.{Unlabelled, Labelled}

-- a feature has the id, and stands so: it has no label, for this reason, or a label with this number
abbrev pub IsStandingOf : Editing → List ℕ → Standing → Type 0
IsStandingOf e id (Unlabelled reason) = (f : Feature) × Contains e.state.features f × (f.id ≡ id) × IsLabelling e.state.style f (Err reason)
IsStandingOf e id (Labelled number) = HasFeature e.state.features id × IsNumberOf e.engine.rows id number

-- how the feature with the id stands; none where no feature has it
abbrev pub IsStanding : Editing → List ℕ → Option Standing → Type 0
IsStanding e id answer = MatchOption answer (¬ (HasFeature e.state.features id)) (IsStandingOf e id)
