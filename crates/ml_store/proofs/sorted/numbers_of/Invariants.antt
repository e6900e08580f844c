use Rattle.std.proofs.Common.{◌≡◌, map, take}
use Rattle.ml_store.proofs.sorted.numbers_of.Given as goal

abbrev pub invariant-loop-name : goal.invariant-loop-name
invariant-loop-name l = l.numbers.items ≡ map (λ n. n.number) (take l.name-index l.names)
