use Rattle.std.proofs.Common.{◌≡◌, ◌-◌, length, arith}
use Rattle.std.proofs.lemmas.List.{length-take-le}
use Rattle.ml_store.proofs.Orders.{all_shifted, taken_out}
use Rattle.ml_store.proofs.numbers.Numbers.remove.Goals as goal

pub invariant_of-self : goal.invariant_of-self
invariant_of-self c =
    let few = c.self.invariant.few in
    let many : length c.self.inside.tiers ≡ 32768 = c.self.invariant.all.many in
    let size = length-take-le c.self.inside.used c.self.inside.tiers (omega arith) in
    let in' = rw (← c.self.view_is) at c.requires in
    record { few = omega arith; all = rw c.shift.ensures (all_shifted c.self.inside.tiers c.args.at (c.self.inside.used - 1) c.self.invariant.all (omega arith) (omega arith)) }

pub returns : goal.returns
returns c =
    let few = c.self.invariant.few in
    let many : length c.self.inside.tiers ≡ 32768 = c.self.invariant.all.many in
    let size = length-take-le c.self.inside.used c.self.inside.tiers (omega arith) in
    let in' = rw (← c.self.view_is) at c.requires in
    rw (c.shift.ensures, ← c.self.view_is) (taken_out c.self.inside.tiers c.self.inside.used c.args.at (omega arith) (omega arith))
