-- What watchers are told.
use Rattle.std.specs.Prelude.{◌≡◌, ℕ, ◌<◌, ◌≤◌, List, [], ◌∷◌, ◌++◌, length, take, flat_map, Option, Result, OnErr, OnOk, slice_index_or}
use Rattle.ml_ratio.specs.Count.{one_more}
use Rattle.ml_io.specs.Causes.{Rose, Appends}
use Rattle.ml_watch.specs.Line.{change_line}
use Rattle.ml_watch.specs.declared.change.Change.{Change}

-- what a watcher tells: the changes told and the text told where it knows them, how many changes it was told with Ok, and how often it failed
pub record Hearing : Type 0 where
  pub told : Option (List Change)
  pub text : Option (List ℕ)
  pub heard : ℕ
  pub faults : ℕ

-- how many changes were heard after these: one more for each, up to 2^64 - 1
abbrev pub heard_after : ℕ → List Change → ℕ
heard_after heard [] = heard
heard_after heard (change ∷ changes) = heard_after (one_more heard) changes

-- these changes were told with Ok, each with its line, and then this part of a line
pub record Grew (old new : Hearing) (changes : List Change) (part : List ℕ) : Type 0 where
  pub told : Appends old.told new.told changes
  pub text : Appends old.text new.text (flat_map change_line changes ++ part)
  pub heard : new.heard ≡ heard_after old.heard changes

-- one call of `tell`: the change was heard, and no fault counted; or it was not, a first part of its line may have come, and the count rose
pub record Told {E : Type 0} (old new : Hearing) (change : Change) (result : Result (Unit {0}) E) : Type 0 where
  pub ok : OnOk result (Grew old new (change ∷ []) [] × (new.faults ≡ old.faults))
  pub err : OnErr result ((n : ℕ) × Grew old new [] (take n (change_line change)))
  pub cause : OnErr result (Rose old.faults new.faults)
  pub later : old.faults ≤ new.faults

-- nothing of a line, or a first part of the line of the first of these changes
abbrev pub IsPartOf : List Change → List ℕ → Type 0
IsPartOf [] part = part ≡ []
IsPartOf (change ∷ rest) part = (n : ℕ) × (part ≡ take n (change_line change))

-- one watcher was told a prefix of the changes, in order: all of them where its count of faults is 0 afterwards; where that was above 0 before, the watcher is as it was
pub record Hears {W : Type 0} (hearing : W → Hearing) (old new : W) (changes : List Change) : Type 0 where
  pub front : List Change
  pub rest : List Change
  pub part : List ℕ
  pub parts : changes ≡ front ++ rest
  pub cut : IsPartOf rest part
  pub grew : Grew (hearing old) (hearing new) front part
  pub all : (hearing new).faults ≡ 0 → (rest ≡ []) × (part ≡ [])
  pub silent : 0 < (hearing old).faults → new ≡ old
  pub later : (hearing old).faults ≤ (hearing new).faults

-- the watchers keep their number and places, and each was told the changes so
pub record AllHear {W : Type 0} (hearing : W → Hearing) (changes : List Change) (old new : List W) : Type 0 where
  pub places : length new ≡ length old
  pub each : (k : ℕ) (d : W) → k < length old → Hears hearing (slice_index_or old k d) (slice_index_or new k d) changes
