use Rattle.std.proofs.Common.{◌≡◌, ◌++◌, map, drop}
use Rattle.ml_json.specs.View.{tree_of, pair_of}
use Rattle.ml_json.specs.Lent.{lent_of, lent_pair_of}
use Rattle.ml_json.proofs.copies.+copying.Given as goal

abbrev pub invariant-copy_items-loop-item : goal.invariant-copy_items-loop-item
invariant-copy_items-loop-item l = map lent_of l.items ≡ map tree_of l.values.items ++ map lent_of (drop l.item-index l.items)

abbrev pub invariant-copy_pairs-loop-pair : goal.invariant-copy_pairs-loop-pair
invariant-copy_pairs-loop-pair l = map lent_pair_of l.pairs ≡ map pair_of l.copies.items ++ map lent_pair_of (drop l.pair-index l.pairs)
