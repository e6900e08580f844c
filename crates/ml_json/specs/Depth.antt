-- How many lists and maps are open behind bytes: brackets and braces outside strings.
use Rattle.std.specs.Prelude.{ℕ, ◌+◌, ◌-◌, ◌≤◌, List, [], ◌∷◌, take, ◌==◌, ◌||◌, if◌then◌else◌}

-- where the next byte stands
pub data Where : Type 0 where
  outside : Where
  inside : Where
  behind_backslash : Where

-- where the next byte stands, and the depth there
abbrev pub Seen : Type 0
Seen = Where × ℕ

-- what one byte changes: a quote, a bracket or a brace
abbrev pub see : Where → ℕ → ℕ → Seen
see outside d b =
    if b == 34 then (inside, d)
    else (if (b == 91) || (b == 123) then (outside, d + 1)
    else (if (b == 93) || (b == 125) then (outside, d - 1) else (outside, d)))
see inside d b =
    if b == 34 then (outside, d)
    else (if b == 92 then (behind_backslash, d) else (inside, d))
see behind_backslash d b = (inside, d)

-- what bytes change, one after another
unfoldable pub seen : Seen → List ℕ → Seen
seen x [] = x
seen x (b ∷ bs) = seen (see x.0 x.1 b) bs

-- the lists and maps that are open behind the bytes
abbrev pub depth : List ℕ → ℕ
depth bytes = (seen (outside, 0) bytes).1

-- no byte before the place opens a 65th
abbrev pub IsShallow : List ℕ → ℕ → Type 0
IsShallow bytes at = (k : ℕ) → k ≤ at → depth (take k bytes) ≤ 64
