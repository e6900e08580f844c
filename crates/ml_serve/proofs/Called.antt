-- What the laws say that are called: of lists from whose front something goes and at whose end something comes, and of what is heard.
use Rattle.std.proofs.Common.{ℕ, List, [], ◌++◌, Option}
use Rattle.ml_io.specs.Causes.{Appends, AppendsPart}
use Rattle.ml_io.specs.Takes.{Takes}
use Rattle.ml_watch.specs.Hearing.{Hearing, AllHear}
use Rattle.ml_watch.specs.declared.change.Change.{Change}

-- that a list from whose front nothing is taken stays as it is
abbrev pub NothingTaken : Type 0 → Type 0
NothingTaken A = (told : Option (List A)) → Takes told told []

-- that what is taken first and what is taken then are taken together, in this order
abbrev pub TakenTwice : Type 0 → Type 0
TakenTwice A = (old between new : Option (List A)) (first second : List A) → Takes old between first → Takes between new second → Takes old new (first ++ second)

-- that a list at whose end nothing is put stays as it is
abbrev pub NothingPut : Type 0 → Type 0
NothingPut A = (told : Option (List A)) → Appends told told []

-- that what is put first and what is put then are put together, in this order
abbrev pub PutTwice : Type 0 → Type 0
PutTwice A = (old between new : Option (List A)) (first second : List A) → Appends old between first → Appends between new second → Appends old new (first ++ second)

-- that watchers who are told no changes stay as they are
abbrev pub NothingHeard : {W : Type 0} → (W → Hearing) → Type 0
NothingHeard {W} hearing = (watchers : List W) → AllHear hearing [] watchers watchers

-- that watchers who were told some changes and then others were told them all
abbrev pub HeardTwice : {W : Type 0} → (W → Hearing) → Type 0
HeardTwice {W} hearing = (first second : List Change) (old between new : List W) → AllHear hearing first old between → AllHear hearing second between new → AllHear hearing (first ++ second) old new
