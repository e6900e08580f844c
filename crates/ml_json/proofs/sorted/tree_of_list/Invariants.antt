use Rattle.std.proofs.Common.{◌≡◌}
use Rattle.std.specs.Vec.Iter.{into_iter_items}
use Rattle.ml_json.specs.Tree.{put_all}
use Rattle.ml_json.specs.Lent.{lent_pairs_view}
use Rattle.ml_json.specs.Sorted.{entries_view}
use Rattle.ml_json.proofs.sorted.tree_of_list.Given as goal

abbrev pub invariant-loop-pair : goal.invariant-loop-pair
invariant-loop-pair l = put_all (entries_view l.tree.entries) (lent_pairs_view (into_iter_items l.pair-iterator)) ≡ lent_pairs_view l.fn.list.pairs.items
