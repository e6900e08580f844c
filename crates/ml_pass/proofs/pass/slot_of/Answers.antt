use Rattle.std.proofs.Common.{ℕ, ◌<◌, List, length, map, subst}
use Rattle.ml_ratio.specs.Fraction.{value_of}
use Rattle.ml_cone.specs.Slots.{IsSlotAmong}
use Rattle.ml_pass.specs.Search.{rivals_in, IsSearched}
use Rattle.ml_pass.proofs.Gathering.{enough_of}
use Rattle.ml_pass.proofs.pass.slot_of.Goals as goal

pub returns-clause-own : goal.returns-clause-own
returns-clause-own g c =
    let low = c.args.search.now.low.now in
    let rivals = rivals_in c.args.search.now.labels.now c.args.search.now.slots.now low in
    let n = length c.args.search.now.slots.now in
    let found = c.gather.new.places.items in
    let sorted = c.sort_unstable.new.self.items in
    let bound = c.in_ok-gather.ensures.0 in
    let searched = subst (λ (l : List ℕ). IsSearched low rivals n (λ j. j < n) (value_of low.max) bound l found) c.requires.empty c.in_ok-gather.ensures.1 in
    let are = enough_of low rivals n bound found sorted searched c.sort_unstable.ensures.permutation c.sort_unstable.ensures.sorted in
    c.enough.ensures low rivals n bound sorted c.evaluate-slot.result are
    (subst (λ (l : List ℕ). IsSlotAmong low (map rivals l) c.evaluate-slot.result) c.as_slice.ensures.value c.evaluate-slot.ensures.own)
