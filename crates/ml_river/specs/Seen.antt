-- The widest run of those that were looked at. No public clause speaks of it.
use Rattle.std.specs.Prelude.{◌≡◌, ℕ, ◌<◌, ◌≤◌, List, Option, None, Some, MatchOption}
use Rattle.ml_ratio.specs.declared.geometry.Pos.{Pos}
use Rattle.ml_river.specs.Run.{span, line_at, IsRunOf, IsBefore}
use Rattle.ml_river.specs.declared.runs.Run.{Run}

-- how far the ends of a run lie apart, 0 without one
abbrev pub extent_of : Option Run → ℕ
extent_of None = 0
extent_of (Some run) = run.span

-- the run is the widest of those that begin before place a of line i, the first at a tie
pub record IsWidestBefore (lines : List (List Pos)) (i a : ℕ) (run : Run) : Type 0 where
  pub is_run : IsRunOf lines run.line run.from run.to
  pub span_is : run.span ≡ span (line_at lines run.line) run.from run.to
  pub widest : (k m n : ℕ) → IsRunOf lines k m n → IsBefore k m i a → span (line_at lines k) m n ≤ run.span
  pub first : (k m n : ℕ) → IsRunOf lines k m n → IsBefore k m run.line run.from → span (line_at lines k) m n < run.span

-- no run begins before place a of line i
abbrev pub HasNoneBefore : List (List Pos) → ℕ → ℕ → Type 0
HasNoneBefore lines i a = (k m n : ℕ) → IsRunOf lines k m n → ¬ (IsBefore k m i a)

-- the best run of those that begin before place a of line i, if there is one
abbrev pub IsBestBefore : List (List Pos) → ℕ → ℕ → Option Run → Type 0
IsBestBefore lines i a best = MatchOption best (HasNoneBefore lines i a) (IsWidestBefore lines i a)
