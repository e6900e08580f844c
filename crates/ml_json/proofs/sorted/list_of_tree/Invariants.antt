use Rattle.std.proofs.Common.{◌≡◌}
use Rattle.ml_json.specs.Sorted.{entries_view, onto}
use Rattle.ml_json.proofs.sorted.list_of_tree.Given as goal

abbrev pub invariant-loop-key : goal.invariant-loop-key
invariant-loop-key l = onto l.pairs.items (entries_view l.key-iterator) ≡ entries_view l.fn.tree.entries
