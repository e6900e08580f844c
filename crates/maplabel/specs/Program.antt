-- What the process comes to.
use Rattle.std.specs.Prelude.{◌≡◌, ◌⊎◌, ℕ, Bool, true, false, List, [], ◌∷◌, drop, map, Option, None, Result, Ok, Err, Vec, String, string_bytes, if◌then◌else◌}
use Rattle.std.specs.declared.alloc.Global.{Global}
use Rattle.std.specs.declared.io.Error.{Error}
use Rattle.std.specs.declared.io.ErrorKind.TheVariants.{OutOfMemory}
use Rattle.std.specs.IoError.{error_kind}
use Rattle.ml_watch.specs.Hearing.{Hearing}
use Rattle.maplabel.specs.declared.status.Status.TheVariants.{Memory}
use Rattle.ml_watch.specs.declared.line_watcher.LineWatcher.{LineWatcher}
use Rattle.maplabel.specs.Codes.{code_of}
use Rattle.ml_command.specs.Commands.{Ask, IsForm, tells_changes}
use Rattle.maplabel.specs.Run.{Call, IsRun}
use Rattle.ml_command.specs.declared.command.Command.{Command}
use Rattle.maplabel.specs.declared.status.Status.{Status}

-- the words were run, and the code is that of the status
abbrev pub IsProgram : {S D I O W : Type 0} → Call S D I O W → List (List ℕ) → ℕ → Type 0
IsProgram r words code = (status : Status) × IsRun r words status × (code ≡ code_of status)

-- whether the words ask for a command whose changes are told
abbrev pub IsTelling : List (List ℕ) → Bool → Type 0
IsTelling words told =
    ((command : Command) × Ask words command × (told ≡ tells_changes command)) ⊎ ((¬ (IsForm words)) × (told ≡ false))

-- a watcher that was told nothing yet, over this sink
abbrev pub watcher_over : {E : Type 0} → E → LineWatcher E
watcher_over errors = record { sink = errors; heard = 0; faults = 0 }

-- one watcher over the sink where changes are told, and else none
abbrev pub AreWatchers : {E : Type 0} → List (List ℕ) → E → List (LineWatcher E) → Type 0
AreWatchers words errors watchers =
    (told : Bool) × IsTelling words told × (watchers ≡ (if told then watcher_over errors ∷ [] else []))

-- what a watcher over a sink of lines heard, by what the sink tells as written
abbrev pub hearing_of : {E : Type 0} → (E → Option (List ℕ)) → LineWatcher E → Hearing
hearing_of written w = record { told = None; text = written w.sink; heard = w.heard; faults = w.faults }

-- what the process was given: its name and the words behind it, or why there are no such values
abbrev pub Given : Type 0
Given = Result (Vec (String Global) Global) Error

-- the words behind the program's name; none where a value is no text, or memory was wanting
abbrev pub words_given : Given → List (List ℕ)
words_given (Ok values) = map string_bytes (drop 1 values.items)
words_given (Err error) = []

-- memory was wanting for the values
abbrev pub IsMissing : Given → Type 0
IsMissing (Ok values) = ⊥
IsMissing (Err error) = error_kind error ≡ OutOfMemory

-- there were values, or one of them was no text; the words were run, watched by one watcher over the sink where they tell changes, and the code is that of the run
abbrev pub IsStarted : {S D I O E : Type 0} → Call S D I O (LineWatcher E) → Given → E → ℕ → Type 0
IsStarted r given errors code =
    (¬ (IsMissing given)) × AreWatchers (words_given given) errors r.old.crowd × IsProgram r (words_given given) code

-- nothing was run: memory was wanting for the values, or for the watcher that the words ask for; and the code says so
abbrev pub IsNotStarted : Given → ℕ → Type 0
IsNotStarted given code = (code ≡ code_of Memory) × (IsMissing given ⊎ IsTelling (words_given given) true)
