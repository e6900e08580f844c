-- Groups of a generated map, and where they lie.
use Rattle.std.specs.Prelude.{◌≢◌, ℕ, zero, suc, ◌+◌, ◌*◌, ◌/◌, ◌%◌, ◌^◌, ◌<◌, ℤ, pos, negsuc, ◌+ℤ◌, ◌-ℤ◌, ◌≤ℤ◌, List, map, AllPairs}
use Rattle.std.specs.List.{range_with_len}
use Rattle.ml_gen.specs.declared.group.Group.{Group}

-- the number that follows another
unfoldable pub next_number : ℕ → ℕ
next_number z = (z * 6364136223846793005 + 1442695040888963407) % 2 ^ 64

-- the numbers that a seed gives: itself, and each further one from the one before
abbrev pub number : ℕ → ℕ → ℕ
number seed zero = seed
number seed (suc n) = next_number (number seed n)

-- a group with its number, put where z moves it: 80 groups lie in a row, all are 10,000,000 apart, and each is moved by less than 100,000
abbrev pub placed : ℕ → ℕ → Group
placed g z = record {
  number = g;
  x = pos (g % 80 * 10000000) -ℤ pos 400000000 +ℤ pos (z / 2 ^ 32 % 100000);
  y = pos (g / 80 * 10000000) -ℤ pos 400000000 +ℤ pos (z % 100000);
}

-- a group of the map of a seed: its own number of the seed moves it
abbrev pub group_of : ℕ → ℕ → Group
group_of seed g = placed g (number seed (suc g))

-- the groups of a map, in order
abbrev pub groups_in : ℕ → ℕ → List Group
groups_in n seed = map (group_of seed) (range_with_len 0 n)

-- the group that is edited in a turn: at first that whose number is the seed, round the n groups
abbrev pub group_in_turn : ℕ → ℕ → ℕ → Group
group_in_turn n seed turn = group_of seed ((turn + seed) % n)

-- the groups in the order in which they are edited
abbrev pub order : ℕ → ℕ → List Group
order n seed = map (group_in_turn n seed) (range_with_len 0 n)

-- a place of groups, with room on all sides in the world
abbrev pub IsNear : ℤ → Type 0
IsNear v = (negsuc 399999999 ≤ℤ v) × (v ≤ℤ pos 400000000)

-- the group is one of so many, and lies there
abbrev pub IsGroupPlace : Group → Type 0
IsGroupPlace group = (group.number < 6000) × IsNear group.x × IsNear group.y

-- how far a feature may lie from its group
abbrev pub IsStep : ℤ → Type 0
IsStep v = (pos 0 ≤ℤ v) × (v ≤ℤ pos 10000000)

-- no two groups have one number
abbrev pub HaveOwnNumbers : List Group → Type 0
HaveOwnNumbers groups = AllPairs (λ one other. one.number ≢ other.number) groups
