-- Live labels with the grid and the index of blockers, which agree with them.
use Rattle.std.specs.Prelude.{ℕ, ◌≡◌, ◌↔◌, List, Contains, All, Option, MatchOption}
use Rattle.ml_cone.specs.Outline.{IsWithin}
use Rattle.ml_cone.specs.declared.outline.Outline.{Outline}
use Rattle.ml_grid.specs.Entry.{Entry, IsEntryOf}
use Rattle.ml_spans.specs.Spans.{entry_of}
use Rattle.ml_spans.specs.declared.entry.Entry.{Entry as SpanEntry}
use Rattle.ml_store.specs.Rows.{HaveOwnNumbers}
use Rattle.ml_store.specs.declared.row.Row.{Row}

-- a pair of the index: as its key the number of a blocker, and as its value that of the label that it blocks; the end is always 0
abbrev pub Pair : Type 0
Pair = SpanEntry ℕ ℕ ℕ

-- the pair is that of the label with this number and its blocker
abbrev pub IsPairBy : ℕ → Option ℕ → Pair → Type 0
IsPairBy number blocker p = MatchOption blocker ⊥ (λ b. p ≡ entry_of b 0 number)

-- the entry of the grid is one of the row
abbrev pub IsEntryIn : Row → Entry → Type 0
IsEntryIn r e = IsEntryOf r.number r.label r.slot.until e

-- the pair is that of the row
abbrev pub IsPairIn : Row → Pair → Type 0
IsPairIn r p = IsPairBy r.number r.slot.blocker p

-- an index holds exactly what belongs to the rows
abbrev pub IsIndex : {X : Type 0} → (Row → X → Type 0) → List Row → List X → Type 0
IsIndex {X} Q rows index = (x : X) → Contains index x ↔ ((r : Row) × Contains rows r × Q r x)

-- the labels of the rows are within the outline
abbrev pub AreWithin : Outline → List Row → Type 0
AreWithin outline rows = All (λ r. IsWithin outline r.label) rows

-- no two rows have one number, the grid holds exactly the entries of the rows, and the index of blockers exactly their pairs
pub record IsStored (rows : List Row) (entries : List Entry) (pairs : List Pair) : Type 0 where
  pub differ : HaveOwnNumbers rows
  pub kept : IsIndex IsEntryIn rows entries
  pub paired : IsIndex IsPairIn rows pairs
