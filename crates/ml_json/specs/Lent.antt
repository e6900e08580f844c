-- The tree that a lent value stands for.
use Rattle.std.specs.Prelude.{ℕ, List, map as mapped}
use Rattle.ml_json.specs.Tree.{Tree, null, flag, num, str, list, map, Trees, Pairs}
use Rattle.ml_json.specs.View.{trees_of, pairs_of}
use Rattle.ml_json.specs.declared.lent.Lent.{Lent, fold-Lent}
use Rattle.ml_json.specs.declared.lent.Lent.TheOpen.{Lent-F}
use Rattle.ml_json.specs.declared.lent.LentPair.{LentPair, fold-LentPair, LentPair-F}

-- the tree of a value whose parts have become trees
abbrev pub lent_step : Lent-F Tree (List ℕ × Tree) → Tree
lent_step Lent-F.Null = null
lent_step (Lent-F.Flag b) = flag b
lent_step (Lent-F.Num s) = num s
lent_step (Lent-F.Str s) = str s
lent_step (Lent-F.List v) = list (trees_of v.items)
lent_step (Lent-F.Map v) = map (pairs_of v.items)

-- the key and tree of a member whose value has become a tree
abbrev pub lent_pair_step : LentPair-F Tree (List ℕ × Tree) → List ℕ × Tree
lent_pair_step p = (p.key, p.value)

-- the tree that a value stands for
abbrev pub lent_of : Lent → Tree
lent_of = fold-Lent Tree (List ℕ × Tree) lent_step lent_pair_step

-- the key and tree of a member
abbrev pub lent_pair_of : LentPair → List ℕ × Tree
lent_pair_of = fold-LentPair Tree (List ℕ × Tree) lent_step lent_pair_step

-- the items that values stand for
abbrev pub lents_view : List Lent → Trees
lents_view vs = trees_of (mapped lent_of vs)

-- the members that pairs stand for
abbrev pub lent_pairs_view : List LentPair → Pairs
lent_pairs_view ps = pairs_of (mapped lent_pair_of ps)
