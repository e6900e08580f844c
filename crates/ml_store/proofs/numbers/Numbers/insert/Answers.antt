use Rattle.std.proofs.Common.{ℕ, ◌≡◌, ◌<◌, ◌≤◌, List, length, get_or, take, Contains, arith}
use Rattle.std.proofs.lemmas.List.{length-take-le}
use Rattle.ml_store.specs.Tiers.{AreAll}
use Rattle.ml_store.proofs.Orders.{place_free, all_shifted, taken_in}
use Rattle.ml_store.proofs.numbers.Numbers.insert.Goals as goal

-- where the free number stands, and where it comes to stand
record Standing (order : List ℕ) (used at from : ℕ) : Type 0 where
  within : from < 32768
  behind : used ≤ from
  is_place : at ≤ used

standing : (order : List ℕ) (used at from number : ℕ) → AreAll order → used ≤ 32768 → from < length order → get_or order from 0 ≡ number → ¬ (Contains (take used order) number) →
    at ≤ length (take used order) → Standing order used at from
standing order used at from number all few in' is free place =
    let many : length order ≡ 32768 = all.many in
    let size = length-take-le used order (omega arith) in
    record { within = omega arith; behind = place_free order used from number (omega arith) is free; is_place = omega arith }

pub invariant_of-self : goal.invariant_of-self
invariant_of-self c =
    let s = standing c.self.inside.tiers c.self.inside.used c.args.at c.place_of-from.result c.args.number c.self.invariant.all c.self.invariant.few c.place_of-from.ensures.place
    c.place_of-from.ensures.number (rw (← c.self.view_is) at c.requires.free) (rw (← c.self.view_is) at c.requires.is_place) in
    let within = s.within in
    let behind = s.behind in
    let place = s.is_place in
    record { few = omega arith; all = rw c.shift.ensures (all_shifted c.self.inside.tiers c.place_of-from.result c.args.at c.self.invariant.all within (omega arith)) }

pub returns-clause-inserted : goal.returns-clause-inserted
returns-clause-inserted c =
    let s = standing c.self.inside.tiers c.self.inside.used c.args.at c.place_of-from.result c.args.number c.self.invariant.all c.self.invariant.few c.place_of-from.ensures.place
    c.place_of-from.ensures.number (rw (← c.self.view_is) at c.requires.free) (rw (← c.self.view_is) at c.requires.is_place) in
    rw (c.shift.ensures, ← c.self.view_is) (taken_in c.self.inside.tiers c.self.inside.used c.args.at c.place_of-from.result c.args.number c.place_of-from.ensures.place s.is_place s.behind
    c.place_of-from.ensures.number)
