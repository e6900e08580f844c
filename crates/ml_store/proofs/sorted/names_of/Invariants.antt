use Rattle.std.proofs.Common.{◌≡◌, map, take}
use Rattle.ml_store.specs.Boxes.{unboxed}
use Rattle.ml_store.specs.Names.{names_in}
use Rattle.ml_store.specs.Named.{name_of}
use Rattle.ml_store.proofs.sorted.names_of.Given as goal

abbrev pub invariant-loop-row : goal.invariant-loop-row
invariant-loop-row l = map name_of l.names.items ≡ names_in (take l.row-index (unboxed l.rows))
