-- The tree that a `Json` stands for.
use Rattle.std.specs.Prelude.{ℕ, List, [], ◌∷◌, map as mapped}
use Rattle.ml_json.specs.Tree.{Tree, null, flag, num, str, list, map, Trees, none, more, Pairs, no_pairs, pair}
use Rattle.ml_json.specs.declared.value.Json.{Json, fold-Json}
use Rattle.ml_json.specs.declared.value.Json.TheOpen.{Json-F}
use Rattle.ml_json.specs.declared.value.Pair.{Pair, fold-Pair, Pair-F}

-- a list of trees as the items of a tree
abbrev pub trees_of : List Tree → Trees
trees_of [] = none
trees_of (t ∷ ts) = more t (trees_of ts)

-- a list of keys with trees as the members of a tree
abbrev pub pairs_of : List (List ℕ × Tree) → Pairs
pairs_of [] = no_pairs
pairs_of (p ∷ ps) = pair p.0 p.1 (pairs_of ps)

-- the tree of a value whose parts have become trees
abbrev pub json_step : Json-F Tree (List ℕ × Tree) → Tree
json_step Json-F.Null = null
json_step (Json-F.Flag b) = flag b
json_step (Json-F.Num s) = num s
json_step (Json-F.Str s) = str s
json_step (Json-F.List v) = list (trees_of v.items)
json_step (Json-F.Map v) = map (pairs_of v.items)

-- the key and tree of a member whose value has become a tree
abbrev pub pair_step : Pair-F Tree (List ℕ × Tree) → List ℕ × Tree
pair_step p = (p.key, p.value)

-- the tree that a value stands for
abbrev pub tree_of : Json → Tree
tree_of = fold-Json Tree (List ℕ × Tree) json_step pair_step

-- the key and tree of a member
abbrev pub pair_of : Pair → List ℕ × Tree
pair_of = fold-Pair Tree (List ℕ × Tree) json_step pair_step

-- the items that values stand for
abbrev pub trees_view : List Json → Trees
trees_view vs = trees_of (mapped tree_of vs)

-- the members that pairs stand for
abbrev pub pairs_view : List Pair → Pairs
pairs_view ps = pairs_of (mapped pair_of ps)
