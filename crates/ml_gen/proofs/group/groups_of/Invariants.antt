use Rattle.std.proofs.Common.{◌≡◌, map, All}
use Rattle.std.specs.List.{range_with_len}
use Rattle.ml_gen.specs.Group.{number, group_of, IsGroupPlace}
use Rattle.ml_gen.proofs.group.groups_of.Given as goal

abbrev pub invariant-loop-number : goal.invariant-loop-number
invariant-loop-number l =
    record {
      follower : l.z ≡ number l.seed l.number;
      groups : l.groups.items ≡ map (group_of l.seed) (range_with_len 0 l.number);
      near : All IsGroupPlace l.groups.items;
    }
