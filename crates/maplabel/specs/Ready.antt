-- When nothing but a lack of memory keeps a command from being done.
use Rattle.std.specs.Prelude.{ℕ, List, Some, ◌⊎◌, ◌≡◌}
use Rattle.ml_io.specs.Causes.{Rose}
use Rattle.ml_io.specs.Files.{FileSet}
use Rattle.ml_cone.specs.declared.label.Label.{Label}
use Rattle.ml_cone.specs.declared.slot.Slot.{Slot}
use Rattle.ml_follow.specs.declared.state.State.{State}
use Rattle.ml_ratio.specs.declared.feature.Feature.{Feature}
use Rattle.ml_style.specs.StyleTable.{IsStyle}
use Rattle.ml_style.specs.declared.style.Style.{Style}
use Rattle.ml_command.specs.Commands.{Ask, IsForm}
use Rattle.ml_command.specs.Following.{HasStates}
use Rattle.ml_command.specs.Inputs.{HasTable, HasSlots}
use Rattle.maplabel.specs.Generating.{sample_style}
use Rattle.ml_command.specs.MapInputs.{HasStyle, HasMap}
use Rattle.maplabel.specs.Run.{Call}
use Rattle.ml_command.specs.declared.command.Command.{Command}
use Rattle.ml_command.specs.declared.command.Command.TheVariants.{OnTable, Check, OnMap, Live, Gen, Follow}
use Rattle.maplabel.specs.declared.status.Status.{Status}
use Rattle.maplabel.specs.declared.status.Status.TheVariants.{Done, NotBest, NotAdopted, Memory}

-- the named file is a table within the limit
abbrev pub IsSomeTable : FileSet → List ℕ → Type 0
IsSomeTable files table = (labels : List Label) × HasTable (Some files) table labels

-- the named file is a table within the limit, and the other one has slots for its labels
abbrev pub AreSomeSlots : FileSet → List ℕ → List ℕ → Type 0
AreSomeSlots files table slots = (labels : List Label) × HasTable (Some files) table labels × ((given : List Slot) × HasSlots (Some files) labels slots given)

-- the named file is a style within the limit
abbrev pub IsSomeStyle : FileSet → List ℕ → Type 0
IsSomeStyle files style = (classes : Style) × HasStyle (Some files) style classes

-- the named file is a map within the limits
abbrev pub IsSomeMap : FileSet → List ℕ → Type 0
IsSomeMap files map = (features : List Feature) × HasMap (Some files) map features

-- each file that the command names is there, within the limits and what it should be; a generated map is loaded under the sample style, which is one
abbrev pub IsReady : FileSet → Command → Type 0
IsReady files (OnTable table task) = IsSomeTable files table.now
IsReady files (Check table slots) = AreSomeSlots files table.now slots.now
IsReady files (OnMap style map task) = IsSomeStyle files style.now × IsSomeMap files map.now
IsReady files (Live style map task) = IsSomeStyle files style.now × IsSomeMap files map.now
IsReady files (Gen groups seed) = (style : Style) × IsStyle sample_style style
IsReady files (Follow name) = (states : List State) × HasStates (Some files) name.now states

-- the words have one of the forms, and what they ask for is ready
pub record AreReady (files : FileSet) (words : List (List ℕ)) : Type 0 where
  pub form : IsForm words
  pub ready : (command : Command) → Ask words command → IsReady files command

-- no count of faults rose: none of files, output, input and door
pub record IsCalm {S D I O W : Type 0} (r : Call S D I O W) : Type 0 where
  pub files : ¬ (Rose r.files.faults_before r.files.faults_after)
  pub out : ¬ (Rose r.out.faults r.out.faults_after)
  pub input : ¬ (Rose r.input.faults r.input.faults_after)
  pub door : ¬ (Rose r.door.faults r.door.faults_after)

-- the command is done, or what it answers in its place
abbrev pub IsAnswered : Command → Status → Type 0
IsAnswered (OnTable table task) status = status ≡ Done
IsAnswered (Check table slots) status = (status ≡ Done) ⊎ (status ≡ NotBest)
IsAnswered (OnMap style map task) status = status ≡ Done
IsAnswered (Live style map task) status = status ≡ Done
IsAnswered (Gen groups seed) status = status ≡ Done
IsAnswered (Follow name) status = (status ≡ Done) ⊎ (status ≡ NotAdopted)

-- what the words ask for was answered, or memory was wanting
abbrev pub EndsWell : List (List ℕ) → Status → Type 0
EndsWell words status = (command : Command) × Ask words command × (IsAnswered command status ⊎ (status ≡ Memory))
