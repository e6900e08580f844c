-- What the reader's structs keep of a string that has begun. No public clause speaks of it.
use Rattle.std.specs.Prelude.{◌≡◌, ◌<◌, ℕ, List, ◌++◌, true, Option, Some, Vec}
use Rattle.std.specs.Str.{is_utf8}
use Rattle.std.specs.declared.alloc.Global.{Global}
use Rattle.ml_json.specs.Characters as g
use Rattle.ml_json.specs.Characters.{Follows}
use Rattle.ml_json.specs.Strings.{is_high}
use Rattle.ml_json.specs.declared.tail.Tail.{Tail}
use Rattle.ml_json.specs.declared.tail.Tail.TheVariants as tails

-- what a character still wants
abbrev pub tail_of : Tail → g.Tail
tail_of tails.One = g.one
tail_of tails.Two = g.two
tail_of tails.Three = g.three
tail_of tails.AfterE0 = g.after_e0
tail_of tails.AfterEd = g.after_ed
tail_of tails.AfterF0 = g.after_f0
tail_of tails.AfterF4 = g.after_f4

-- whatever of the bytes that may follow comes, it is text then
abbrev pub IsPartial : Tail → Vec ℕ Global → Type 0
IsPartial t got = (cs : List ℕ) → Follows (Some (tail_of t)) cs → is_utf8 (got.items ++ cs) ≡ true

-- what is held is the first half of a pair
abbrev pub HoldsHigh : Option ℕ → Type 0
HoldsHigh half = (h : ℕ) → half ≡ Some h → is_high h ≡ true

-- with the digits to come it stays below 65536
abbrev pub IsSmall : ℕ → ℕ → Type 0
IsSmall left sum = (left < 4) × (left ≡ 0 → sum < 4096) × (left ≡ 1 → sum < 256) × (left ≡ 2 → sum < 16) × (left ≡ 3 → sum ≡ 0)
