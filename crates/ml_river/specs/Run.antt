-- Runs of a line, on which x strictly rises or strictly falls.
use Rattle.std.specs.Prelude.{◌≡◌, ℕ, ◌+◌, ◌-◌, ◌<◌, ◌≤◌, ℤ, pos, ◌-ℤ◌, int_lt, List, [], length, map, take, drop, reverse, slice_index_or, ◌⊎◌, if◌then◌else◌, unsigned_abs}
use Rattle.std.specs.Ordering.{int_cmp}
use Rattle.std.specs.declared.cmp.Ordering.{Ordering}
use Rattle.std.specs.declared.cmp.Ordering.TheVariants.{Less, Greater}
use Rattle.ml_ratio.specs.declared.geometry.Pos.{Pos}

-- the x of the position at place k
unfoldable pub x_at : List Pos → ℕ → ℤ
x_at line k = slice_index_or (map (λ p. p.x) line) k (pos 0)

-- the y of the position at place k
unfoldable pub y_at : List Pos → ℕ → ℤ
y_at line k = slice_index_or (map (λ p. p.y) line) k (pos 0)

-- how the x of the position at k compares with that of the next: less where x rises, greater where it falls
abbrev pub step : List Pos → ℕ → Ordering
step line k = int_cmp (x_at line k) (x_at line (k + 1))

-- each step from place a to place b is this one
abbrev pub Goes : List Pos → Ordering → ℕ → ℕ → Type 0
Goes line o a b = (k : ℕ) → a ≤ k → k < b → step line k ≡ o

-- from place a to place b x strictly rises, or strictly falls
abbrev pub IsStrict : List Pos → ℕ → ℕ → Type 0
IsStrict line a b = Goes line Less a b ⊎ Goes line Greater a b

-- a run: at least two positions, from a to b, of which x strictly rises or strictly falls, and which can be made longer at neither end
pub record IsRun (line : List Pos) (a b : ℕ) : Type 0 where
  pub some : a < b
  pub there : b < length line
  pub strict : IsStrict line a b
  pub first : 0 < a → ¬ (IsStrict line (a - 1) b)
  pub last : b + 1 < length line → ¬ (IsStrict line a (b + 1))

-- how far the ends lie apart in x
abbrev pub span : List Pos → ℕ → ℕ → ℕ
span line a b = unsigned_abs (x_at line b -ℤ x_at line a)

-- the line at place i
abbrev pub line_at : List (List Pos) → ℕ → List Pos
line_at lines i = slice_index_or lines i []

-- a run of the line at i
abbrev pub IsRunOf : List (List Pos) → ℕ → ℕ → ℕ → Type 0
IsRunOf lines i a b = (i < length lines) × IsRun (line_at lines i) a b

-- place m of line k stands before place a of line i
abbrev pub IsBefore : ℕ → ℕ → ℕ → ℕ → Type 0
IsBefore k m i a = (k < i) ⊎ ((k ≡ i) × (m < a))

-- of all runs the one whose ends lie farthest apart, the first at a tie
pub record IsWidestRun (lines : List (List Pos)) (i a b : ℕ) : Type 0 where
  pub run : IsRunOf lines i a b
  pub widest : (k m n : ℕ) → IsRunOf lines k m n → span (line_at lines k) m n ≤ span (line_at lines i) a b
  pub first : (k m n : ℕ) → IsRunOf lines k m n → IsBefore k m i a → span (line_at lines k) m n < span (line_at lines i) a b

-- no line has a run
abbrev pub HasNoRun : List (List Pos) → Type 0
HasNoRun lines = (i a b : ℕ) → ¬ (IsRunOf lines i a b)

-- the positions from a to b
abbrev pub stretch : List Pos → ℕ → ℕ → List Pos
stretch line a b = take (b + 1 - a) (drop a line)

-- the positions from a to b, turned so that x rises from the first to the last
abbrev pub turned : List Pos → ℕ → ℕ → List Pos
turned line a b = if int_lt (x_at line b) (x_at line a) then reverse (stretch line a b) else stretch line a b

-- the last place to which all steps from a on go the same way
pub record IsEndOfSteps (line : List Pos) (a b : ℕ) : Type 0 where
  pub after : a < b
  pub there : b < length line
  pub alike : Goes line (step line a) a b
  pub stops : b + 1 < length line → ¬ (step line b ≡ step line a)
