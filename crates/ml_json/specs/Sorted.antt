-- Members in byte order of their keys, as the reader keeps them. No public clause speaks of it.
use Rattle.std.specs.Prelude.{◌≡◌, ℕ, ◌+◌, ◌<◌, ◌≤◌, List, [], ◌∷◌, length, take, drop, Result, Ok, Err}
use Rattle.std.specs.Coded.{Unit-prop}
use denote.Struct.Props as logic
use Rattle.ml_json.specs.Canonical.{IsAscending}
use Rattle.ml_json.specs.Tree.{Tree, Pairs, no_pairs, pair, put}
use Rattle.ml_json.specs.Lent.{lent_of, lent_pair_of, lent_pairs_view}
use Rattle.ml_json.specs.declared.lent.Lent.{Lent}
use Rattle.ml_json.specs.declared.lent.LentPair.{LentPair}

-- it holds in at most one way
pub IsAscending-prop : (ps : Pairs) → IsProp (IsAscending ps)
IsAscending-prop no_pairs = Unit-prop
IsAscending-prop (pair k v no_pairs) = Unit-prop
IsAscending-prop (pair k v (pair l w ps)) = Prim.hlevel (logic.props, IsAscending-prop (pair l w ps))

-- the members that a tree's entries stand for
abbrev pub entries_view : List (List ℕ × Lent) → Pairs
entries_view [] = no_pairs
entries_view (e ∷ es) = pair e.0 (lent_of e.1) (entries_view es)

-- the members of pairs in front of others
abbrev pub onto : List LentPair → Pairs → Pairs
onto [] r = r
onto (p ∷ ps) r = pair (lent_pair_of p).0 (lent_pair_of p).1 (onto ps r)

-- a member that is put in stands behind the pairs before the place: in place of the one there, or in front of it
abbrev pub IsPlace : List ℕ → List LentPair → Result ℕ ℕ → Type 0
IsPlace k ps (Ok at) = (at < length ps) × ((v : Tree) → put k v (lent_pairs_view ps) ≡ onto (take at ps) (pair k v (lent_pairs_view (drop (at + 1) ps))))
IsPlace k ps (Err at) = (at ≤ length ps) × ((v : Tree) → put k v (lent_pairs_view ps) ≡ onto (take at ps) (pair k v (lent_pairs_view (drop at ps))))
