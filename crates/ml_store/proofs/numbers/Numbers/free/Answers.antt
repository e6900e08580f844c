use Rattle.std.proofs.Common.{◌≡◌, length, sym, arith}
use Rattle.std.proofs.lemmas.List.{length-take-le}
use Rattle.ml_store.proofs.Orders.{unused}
use Rattle.ml_store.proofs.numbers.Numbers.free.Goals as goal

pub returns-clause-free : goal.returns-clause-free
returns-clause-free c =
    let few = c.self.invariant.few in
    let many : length c.self.inside.tiers ≡ 32768 = c.self.invariant.all.many in
    let size = length-take-le c.self.inside.used c.self.inside.tiers (omega arith) in
    let room = rw (← c.self.view_is) at c.requires in
    rw (← c.self.view_is) (unused c.self.inside.tiers c.self.inside.used c.self.inside.used c.at.result c.self.invariant.all (omega arith) (omega arith) (sym c.at.ensures))
