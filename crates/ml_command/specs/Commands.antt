-- What the words after the program's name ask for.
use Rattle.std.specs.Prelude.{◌≡◌, ℕ, List, [], ◌∷◌, codes, Option, MatchOption, Bool, true, false}
use Rattle.ml_command.specs.declared.command.Command.{Command}
use Rattle.ml_command.specs.declared.command.Command.TheVariants.{OnTable, Check, OnMap, Live, Gen, Follow}
use Rattle.ml_command.specs.declared.command.TableTask.TheVariants.{Show, Slots, Gaps, GapView}
use Rattle.ml_command.specs.declared.command.MapTask.TheVariants.{ViewMap, Zoom}
use Rattle.ml_command.specs.declared.command.LiveTask.TheVariants.{Pipe, Serve}
use Rattle.ml_command.specs.Words.{AreViewWords, AreWindowWords, IsNumberFrom}

-- the first word of a command
abbrev pub name_of : Command → List ℕ
name_of (OnTable table (Show view)) = codes "show"
name_of (OnTable table Slots) = codes "slots"
name_of (OnTable table Gaps) = codes "gaps"
name_of (OnTable table (GapView view)) = codes "gapview"
name_of (Check table slots) = codes "check"
name_of (OnMap style map (ViewMap view)) = codes "view"
name_of (OnMap style map (Zoom window)) = codes "zoom"
name_of (Live style map Pipe) = codes "pipe"
name_of (Live style map (Serve port count)) = codes "serve"
name_of (Gen groups seed) = codes "gen"
name_of (Follow states) = codes "follow"

-- the words behind it
abbrev pub AreRest : Command → List (List ℕ) → Type 0
AreRest (OnTable table (Show view)) rest = (words : List (List ℕ)) × (rest ≡ table.now ∷ words) × AreViewWords words view
AreRest (OnTable table Slots) rest = rest ≡ table.now ∷ []
AreRest (OnTable table Gaps) rest = rest ≡ table.now ∷ []
AreRest (OnTable table (GapView view)) rest = (words : List (List ℕ)) × (rest ≡ table.now ∷ words) × AreViewWords words view
AreRest (Check table slots) rest = rest ≡ table.now ∷ slots.now ∷ []
AreRest (OnMap style map (ViewMap view)) rest = (words : List (List ℕ)) × (rest ≡ style.now ∷ map.now ∷ words) × AreViewWords words view
AreRest (OnMap style map (Zoom window)) rest = (words : List (List ℕ)) × (rest ≡ style.now ∷ map.now ∷ words) × AreWindowWords words window
AreRest (Live style map Pipe) rest = rest ≡ style.now ∷ map.now ∷ []
AreRest (Live style map (Serve port count)) rest =
    (p : List ℕ) × (c : List ℕ) × (rest ≡ style.now ∷ map.now ∷ p ∷ c ∷ []) × IsNumberFrom 1 65535 p port × IsNumberFrom 1 1000000 c count
AreRest (Gen groups seed) rest =
    (g : List ℕ) × (s : List ℕ) × (rest ≡ g ∷ s ∷ []) × IsNumberFrom 1 6000 g groups × IsNumberFrom 0 4294967295 s seed
AreRest (Follow states) rest = rest ≡ states.now ∷ []

-- the words ask for this command
pub record Ask (words : List (List ℕ)) (command : Command) : Type 0 where
  pub rest : List (List ℕ)
  pub are : words ≡ name_of command ∷ rest
  pub takes : AreRest command rest

-- the words have one of the forms
abbrev pub IsForm : List (List ℕ) → Type 0
IsForm words = (command : Command) × Ask words command

-- the answer is the command that the words ask for, or none where they have none of the forms
abbrev pub IsCommandOf : List (List ℕ) → Option Command → Type 0
IsCommandOf words answer = MatchOption answer (¬ (IsForm words)) (Ask words)

-- whether the watchers are told what the command changes
abbrev pub tells_changes : Command → Bool
tells_changes (OnTable table task) = false
tells_changes (Check table slots) = false
tells_changes (OnMap style map task) = false
tells_changes (Live style map task) = true
tells_changes (Gen groups seed) = false
tells_changes (Follow states) = true
