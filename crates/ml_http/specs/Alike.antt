-- Maps that look alike.
use Rattle.std.specs.Prelude.{◌≡◌, ◌↔◌, Contains}
use Rattle.ml_ratio.specs.declared.feature.Feature.{Feature}
use Rattle.ml_editor.specs.State.{State}

-- the two maps have one style and the same features, in whatever order
pub record LookAlike (s t : State) : Type 0 where
  pub style : s.style ≡ t.style
  pub features : (f : Feature) → Contains s.features f ↔ Contains t.features f
