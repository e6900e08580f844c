-- A map that is loaded to be served.
use Rattle.std.specs.Prelude.{◌≡◌, ℕ, List, [], Option}
use Rattle.ml_ratio.specs.declared.feature.Feature.{Feature}
use Rattle.ml_io.specs.Files.{FileSet}
use Rattle.ml_style.specs.declared.style.Style.{Style}
use Rattle.ml_editor.specs.State.{State, first_state}
use Rattle.ml_tile.specs.Cache.{Cache}
use Rattle.ml_command.specs.MapInputs.{HasStyle, HasMap}

-- the named files are a style and a map, and this is the first state of the map under the style
pub record IsFirstState (told : Option FileSet) (style map : List ℕ) (state : State) : Type 0 where
  pub classes : Style
  pub features : List Feature
  pub has_style : HasStyle told style classes
  pub has_map : HasMap told map features
  pub is : state ≡ first_state classes features

-- no tile is held, and none was asked for
abbrev pub no_tiles : Cache
no_tiles = record { tiles = []; hits = 0; skips = 0 }
