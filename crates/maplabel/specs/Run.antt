-- What a run comes to, whatever the words ask for.
use Rattle.std.specs.Prelude.{◌≡◌, ◌⊎◌, List, ℕ}
use Rattle.ml_io.specs.Calls.{Put, Taken, Passed, LinkEnds}
use Rattle.ml_io.specs.Files.{Seen, KeptName}
use Rattle.ml_watch.specs.Hearing.{Hearing}
use Rattle.ml_editor.specs.State.{State}
use Rattle.ml_follow.specs.declared.state.State as follow
use Rattle.ml_command.specs.Answers.{IsTableAnswer, IsMapAnswer}
use Rattle.ml_command.specs.Commands.{Ask, IsForm}
use Rattle.ml_command.specs.Following.{HasStates, IsStatesStop, IsFollowed}
use Rattle.ml_command.specs.Loading.{IsFirstState}
use Rattle.ml_command.specs.Inputs.{IsTableStop, IsCheckStop, StopKeeps}
use Rattle.maplabel.specs.Generating.{IsTotalsOf, IsGenStop}
use Rattle.ml_command.specs.MapInputs.{IsMapAnswerStop}
use Rattle.maplabel.specs.Outcome.{IsCheckAnswer, IsPrinted, IsStopPrinted, usage_line}
use Rattle.maplabel.specs.Serving.{IsPiped, IsAllServed, Watched, watched}
use Rattle.ml_command.specs.declared.command.Command.{Command}
use Rattle.ml_command.specs.declared.command.Command.TheVariants.{OnTable, Check, OnMap, Live, Gen, Follow}
use Rattle.ml_command.specs.declared.command.LiveTask.{LiveTask}
use Rattle.ml_command.specs.declared.command.LiveTask.TheVariants.{Pipe, Serve}
use Rattle.maplabel.specs.declared.status.Status.{Status}
use Rattle.maplabel.specs.declared.status.Status.TheVariants.{Done, Usage, WriteFault, Memory, NotAdopted}
use Rattle.ml_command.specs.declared.following.FollowEnd.{FollowEnd}
use Rattle.ml_command.specs.declared.following.FollowEnd.TheVariants as follow_end
use Rattle.ml_command.specs.declared.stop.Stop.{Stop}

-- input, door and watchers
pub record Lent (S D W : Type 0) : Type 0 where
  pub input : S
  pub door : D
  pub crowd : List W

abbrev pub lending : {S D W : Type 0} → S → D → List W → Lent S D W
lending input door crowd = record { input = input; door = door; crowd = crowd }

-- what a run did to the objects that it was lent, as they tell it: files, output, input and door; input, door and
-- watchers themselves, before and after; and what a watcher heard and the two ends of a connection hold
pub record Call (S D I O W : Type 0) : Type 0 where
  pub files : Seen
  pub out : Put
  pub input : Taken
  pub door : Passed I O
  pub old : Lent S D W
  pub new : Lent S D W
  pub hearing : W → Hearing
  pub ends : LinkEnds I O

-- a text that was due under a status was printed, and no load failed
abbrev pub IsTold : Seen → Put → (Status → List ℕ → Type 0) → Status → Type 0
IsTold files out due status = (now : Status) × (text : List ℕ) × due now text × KeptName files × IsPrinted text now out status

-- there was no answer, and the line that says why was printed; no load failed but that of a file fault
abbrev pub IsStopped : Seen → Put → (Stop → Type 0) → Status → Type 0
IsStopped files out stops status = (s : Stop) × stops s × StopKeeps files s × IsStopPrinted s out status

-- one text was due, or the line that says why there is none; input, door and watchers stay as they were
abbrev pub IsTextEnd : {S D I O W : Type 0} → Call S D I O W → (Status → List ℕ → Type 0) → (Stop → Type 0) → Status → Type 0
IsTextEnd r due stops status = (IsTold r.files r.out due status ⊎ IsStopped r.files r.out stops status) × (r.new ≡ r.old)

-- the watchers of a run, before and after
abbrev pub watchers_of : {S D I O W : Type 0} → Call S D I O W → Watched W
watchers_of r = watched r.hearing r.old.crowd r.new.crowd

-- connections were served over a map from its first state: on `pipe` one, and the door stays as it was; on `serve` those of the door, and the input stays
abbrev pub IsSiteServed : {S D I O W : Type 0} → Call S D I O W → LiveTask → State → Status → Type 0
IsSiteServed r Pipe first status = IsPiped (watchers_of r) first r.input r.out status × (r.new.door ≡ r.old.door)
IsSiteServed r (Serve port count) first status =
    IsAllServed (watchers_of r) r.ends first (record { port = port; count = count }) r.door r.out status × (r.new.input ≡ r.old.input)

-- the status of a run by how following ended
abbrev pub status_of_following : FollowEnd → Status
status_of_following follow_end.Adopted = Done
status_of_following follow_end.NotAdopted = NotAdopted
status_of_following follow_end.WriteFault = WriteFault
status_of_following follow_end.Memory = Memory

-- states were followed, and the status says how that ended
abbrev pub AreFollowed : {W : Type 0} → (W → Hearing) → List follow.State → List W → List W → Put → Status → Type 0
AreFollowed hearing states crowd crowd_after out status =
    (end : FollowEnd) × IsFollowed hearing states crowd crowd_after out end × (status ≡ status_of_following end)

-- states were not loaded, as the line says, and the watchers stay as they were; or the states were followed
abbrev pub IsFollowEnd : {W : Type 0} → (W → Hearing) → Seen → Put → List ℕ → List W → List W → Status → Type 0
IsFollowEnd hearing files out name crowd crowd_after status =
    (IsStopped files out (IsStatesStop files name) status × (crowd_after ≡ crowd))
    ⊎ ((states : List follow.State) × HasStates files.told name states × KeptName files × AreFollowed hearing states crowd crowd_after out status)

-- a command ended so
abbrev pub IsDone : {S D I O W : Type 0} → Call S D I O W → Command → Status → Type 0
IsDone r (OnTable table task) status = IsTextEnd r (λ now text. IsTableAnswer r.files.told table.now task text × (now ≡ Done)) (IsTableStop r.files table.now) status
IsDone r (Check table slots) status = IsTextEnd r (λ now text. IsCheckAnswer r.files.told table.now slots.now now text) (IsCheckStop r.files table.now slots.now) status
IsDone r (OnMap style map task) status = IsTextEnd r (λ now text. IsMapAnswer r.files.told style.now map.now task text × (now ≡ Done)) (IsMapAnswerStop r.files style.now map.now) status
IsDone r (Gen groups seed) status = IsTextEnd r (λ now text. IsTotalsOf groups seed text × (now ≡ Done)) IsGenStop status
IsDone r (Live style map task) status =
    (IsStopped r.files r.out (IsMapAnswerStop r.files style.now map.now) status × (r.new ≡ r.old))
    ⊎ ((first : State) × IsFirstState r.files.told style.now map.now first × KeptName r.files × IsSiteServed r task first status)
IsDone r (Follow name) status =
    (IsStopped r.files r.out (IsStatesStop r.files name.now) status × (r.new ≡ r.old))
    ⊎ ((states : List follow.State) × HasStates r.files.told name.now states × KeptName r.files
    × AreFollowed r.hearing states r.old.crowd r.new.crowd r.out status × (r.new.input ≡ r.old.input) × (r.new.door ≡ r.old.door))

-- the words ask for a command, which ended so; or they have none of the forms, and the line that says so was printed
abbrev pub IsRun : {S D I O W : Type 0} → Call S D I O W → List (List ℕ) → Status → Type 0
IsRun r words status =
    ((command : Command) × Ask words command × IsDone r command status)
    ⊎ ((¬ (IsForm words)) × KeptName r.files × IsPrinted usage_line Usage r.out status × (r.new ≡ r.old))
