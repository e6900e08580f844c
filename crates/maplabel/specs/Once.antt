-- Runs that are one.
use Rattle.std.specs.Prelude.{◌≡◌, ℕ, List, [], ◌∷◌, flat_map, length, Some}
use Rattle.ml_io.specs.Calls.{LinkEnds}
use Rattle.ml_io.specs.Files.{FileSet}
use Rattle.ml_io.specs.declared.link.Link.{Link}
use Rattle.ml_watch.specs.Hearing.{AllHear}
use Rattle.ml_watch.specs.declared.change.Change.{Change}
use Rattle.ml_editor.specs.State.{State}
use Rattle.ml_http.specs.Link.{LinkState}
use Rattle.ml_http.specs.Step.{LinkAnswer}
use Rattle.ml_command.specs.Commands.{Ask}
use Rattle.ml_command.specs.Loading.{IsFirstState}
use Rattle.ml_command.specs.declared.command.Command.{Command}
use Rattle.ml_command.specs.declared.command.Command.TheVariants.{OnTable, Check, OnMap, Live, Gen, Follow}
use Rattle.ml_command.specs.declared.command.LiveTask.TheVariants.{Pipe, Serve}
use Rattle.ml_serve.specs.Headline.{Headline, changes_in}
use Rattle.ml_serve.specs.Once.{AllEndWell, written_in}
use Rattle.ml_serve.specs.Session.{Visit}
use Rattle.maplabel.specs.Run.{Call}
use Rattle.maplabel.specs.Serving.{at_first}

-- each link tells the bytes that it brings
abbrev pub TellBytes : {I O : Type 0} → LinkEnds I O → List (Link I O) → Type 0
TellBytes ends [] = Unit {0}
TellBytes ends (link ∷ links) = ((bytes : List ℕ) × (ends.left link.source ≡ Some bytes)) × TellBytes ends links

-- two runs found the same links at the door, and these tell their bytes
pub record FindLinks {S D I O W : Type 0} (one other : Call S D I O W) : Type 0 where
  pub links : List (Link I O)
  pub door_is : (one.door.coming ≡ Some links) × (other.door.coming ≡ Some links)
  pub links_tell : TellBytes one.ends links

-- besides files, what a command reads was told, and is the same in two runs: the input of `pipe`, the links of `serve`
abbrev pub ReadAlike : {S D I O W : Type 0} → Call S D I O W → Call S D I O W → Command → Type 0
ReadAlike one other (OnTable table task) = Unit {0}
ReadAlike one other (Check table slots) = Unit {0}
ReadAlike one other (OnMap style map task) = Unit {0}
ReadAlike one other (Live style map Pipe) = (bytes : List ℕ) × (one.input.left ≡ Some bytes) × (other.input.left ≡ Some bytes)
ReadAlike one other (Live style map (Serve port count)) = FindLinks one other
ReadAlike one other (Gen groups seed) = Unit {0}
ReadAlike one other (Follow states) = Unit {0}

-- two runs of the words found the same, and it was told: the files, and what else the command reads; watchers and ends of links tell what they hold in one way
pub record FindAlike {S D I O W : Type 0} (one other : Call S D I O W) (words : List (List ℕ)) : Type 0 where
  pub files : FileSet
  pub files_are : (one.files.told ≡ Some files) × (other.files.told ≡ Some files)
  pub reads : (command : Command) → Ask words command → ReadAlike one other command
  pub hearing_is : other.hearing ≡ one.hearing
  pub ends_are : other.ends ≡ one.ends

-- both runs leave input, door and watchers as they were
abbrev pub TellNobody : {S D I O W : Type 0} → Call S D I O W → Call S D I O W → Type 0
TellNobody one other = (one.new ≡ one.old) × (other.new ≡ other.old)

-- both runs told their watchers the same changes
abbrev pub TellAlike : {S D I O W : Type 0} → Call S D I O W → Call S D I O W → Type 0
TellAlike one other =
    (changes : List Change) × AllHear one.hearing changes one.old.crowd one.new.crowd × AllHear other.hearing changes other.old.crowd other.new.crowd

-- a run served these connections of its door over the map, as the headline says
pub record ServesFrom {S D I O W : Type 0} (r : Call S D I O W) (first : State) (visits : List (Visit I O LinkAnswer)) : Type 0 where
  pub last : LinkState W
  pub headline : Headline r.hearing r.ends (at_first first r.old.crowd) last r.door visits
  pub crowd_is : last.crowd ≡ r.new.crowd

-- both runs served as many connections from the first state of the named map under the named style; where each of them ended by
-- neither a fault nor a lack of memory, the runs wrote the same to each, and told their watchers the same changes
pub record ServeAlike {S D I O W : Type 0} (one other : Call S D I O W) (style map : List ℕ) : Type 0 where
  pub first : State
  pub loaded : IsFirstState one.files.told style map first
  pub visits : List (Visit I O LinkAnswer)
  pub others : List (Visit I O LinkAnswer)
  pub serves : ServesFrom one first visits
  pub serves_too : ServesFrom other first others
  pub as_many : length visits ≡ length others
  pub replies : AllEndWell visits → AllEndWell others → written_in one.ends visits ≡ written_in other.ends others
  pub told : AllEndWell visits → AllEndWell others → flat_map changes_in visits ≡ flat_map changes_in others

-- besides what is printed, two runs of a command did the same
abbrev pub DoAlike : {S D I O W : Type 0} → Call S D I O W → Call S D I O W → Command → Type 0
DoAlike one other (OnTable table task) = TellNobody one other
DoAlike one other (Check table slots) = TellNobody one other
DoAlike one other (OnMap style map task) = TellNobody one other
DoAlike one other (Live style map Pipe) = TellAlike one other
DoAlike one other (Live style map (Serve port count)) = ServeAlike one other style.now map.now
DoAlike one other (Gen groups seed) = TellNobody one other
DoAlike one other (Follow states) = TellAlike one other
