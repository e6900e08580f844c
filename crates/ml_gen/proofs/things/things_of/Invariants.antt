use Rattle.std.proofs.Common.{◌≡◌, map, take, flat_map}
use Rattle.ml_gen.specs.Thing.{thing_of, things_in}
use Rattle.ml_gen.proofs.things.things_of.Given as goal

abbrev pub invariant-loop-group : goal.invariant-loop-group
invariant-loop-group l = map thing_of l.features ≡ flat_map things_in (take l.group-index l.groups)
