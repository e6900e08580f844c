-- What a JSON text stands for: a plain tree, with texts as their bytes.
use Rattle.std.specs.Prelude.{ℕ, List, Bool}
use Rattle.std.specs.Ordering.{nat_cmp, match_ordering}
use Rattle.std.specs.Cmp.Lexicographic.{slice_cmp}

mutual
  -- a value; a number is its text
  pub data Tree : Type 0 where
    null : Tree
    flag : Bool → Tree
    num : List ℕ → Tree
    str : List ℕ → Tree
    list : Trees → Tree
    map : Pairs → Tree

  -- the items of a list
  pub data Trees : Type 0 where
    none : Trees
    more : Tree → Trees → Trees

  -- the members of a map
  pub data Pairs : Type 0 where
    no_pairs : Pairs
    pair : List ℕ → Tree → Pairs → Pairs

-- pairs in byte order of keys, with the value put at its key
abbrev pub put : List ℕ → Tree → Pairs → Pairs
put k v no_pairs = pair k v no_pairs
put k v (pair l w ps) = match_ordering (slice_cmp nat_cmp k l) (pair k v (pair l w ps)) (pair k v ps) (pair l w (put k v ps))

-- members put in one after another: in byte order of keys, and of equal keys the last one's value
abbrev pub put_all : Pairs → Pairs → Pairs
put_all ps no_pairs = ps
put_all ps (pair k v ms) = put_all (put k v ps) ms
