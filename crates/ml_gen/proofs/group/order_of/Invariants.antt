use Rattle.std.proofs.Common.{◌≡◌, length, map, All}
use Rattle.std.specs.List.{range_with_len}
use Rattle.ml_gen.specs.Group.{group_in_turn, IsGroupPlace}
use Rattle.ml_gen.proofs.group.order_of.Given as goal

abbrev pub invariant-loop-e : goal.invariant-loop-e
invariant-loop-e l =
    record {
      found : l.found.items ≡ map (group_in_turn (length l.groups) l.seed) (range_with_len 0 l.e);
      placed : All IsGroupPlace l.found.items;
    }
