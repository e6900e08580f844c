use Rattle.std.proofs.Common.{◌≡◌, ◌-◌, ◌≤◌, length, get_or, arith, w64, FitsSigned}
use Rattle.std.proofs.lemmas.Int.{ints, to_z-of_z}
use Rattle.ml_ratio.specs.Fraction.{value_of}
use Rattle.ml_conflict.specs.Field.{SeesSpot}
use Rattle.ml_pass.specs.Search.{rivals_in}
use Rattle.ml_pass.proofs.Searching.{searched_none}
use Rattle.ml_pass.proofs.Gathering.{south_more, south_far}
use Rattle.ml_pass.proofs.search.Search.south.Goals as goal

pub loop-left-init : goal.loop-left-init
loop-left-init c =
    record {
      least = omega arith;
      in_range = omega arith;
      searched = searched_none c.args.self.now.low.now (rivals_in c.args.self.now.labels.now c.args.self.now.slots.now c.args.self.now.low.now)
          (length c.args.self.now.slots.now) (SeesSpot c.args.strip.now.spots.items c.args.seen.left c.args.seen.left) (value_of c.args.seen.bound) c.args.places.now.items
          (λ j saw lt. absurd (omega (arith, saw.1, saw.2)));
    }

pub loop-left-preserved : goal.loop-left-preserved
loop-left-preserved c =
    let spots = c.args.strip.now.spots.items in
    let value = c.as_slice-spots.ensures.value in
    let in' : c.loop-left.left ≤ length spots = (let r = c.loop-left.invariant.in_range in let s = c.requires.within in omega arith) in
    let is : c.index-spots-at.result ≡ get_or spots (c.loop-left.left - 1) c.index-spots-at.result = rw value at c.index-spots-at.is in
    record {
      least = omega arith;
      in_range = omega (arith, c.loop-left.invariant.in_range);
      searched = south_more c.args.self.now.labels.now c.args.self.now.slots.now c.args.self.now.low.now spots c.args.strip.now.area c.requires.strip
          (c.loop-left.left - 1) c.args.seen.left c.index-spots-at.result (omega arith) is
          (value_of c.args.seen.bound) c.args.places.now.items c.loop-left.places.items c.loop-left.left (value_of c.loop-left.bound)
          (value_of c.in_ok-bound.bound) c.look.new.places.items (omega arith) c.loop-left.invariant.searched c.in_ok-bound.ensures;
    }

pub returns-then-is_beyond-clause-searched : goal.returns-then-is_beyond-clause-searched
returns-then-is_beyond-clause-searched c =
    let low = c.args.self.now.low.now in
    let spots = c.args.strip.now.spots.items in
    let spot = c.index-spots-at.result in
    let is : spot ≡ get_or spots (c.loop-left.left - 1) spot = rw c.as_slice-spots.ensures.value at c.index-spots-at.is in
    let r = c.loop-left.invariant.in_range in
    let s = c.requires.within in
    let wl = low.world_y in
    let ws = spot.world_y in
    let fl : FitsSigned w64 low.y = omega (arith, ints) in
    let fs : FitsSigned w64 spot.y = omega (arith, ints) in
    let beyond = simp to_z-of_z at (rw c.y.ensures at (c.is_beyond.ensures c.if-is_beyond.true)) in
    south_far c.args.self.now.labels.now c.args.self.now.slots.now low spots c.args.strip.now.area c.requires.strip
    (c.loop-left.left - 1) c.args.seen.left spot (omega arith) is (value_of c.args.seen.bound) c.args.places.now.items c.loop-left.places.items
    c.args.self.now.area c.args.self.now.its_area c.loop-left.bound c.loop-left.left (omega arith) s beyond c.loop-left.invariant.searched

pub look-requires : goal.look-requires
look-requires c =
    let spots = c.args.strip.now.spots.items in
    let value = c.as_slice-spots.ensures.value in
    let is : c.index-spots-at.result ≡ get_or spots (c.loop-left.left - 1) c.index-spots-at.result = rw value at c.index-spots-at.is in
    let r = c.loop-left.invariant.in_range in
    let s = c.requires.within in
    rw is (c.requires.strip.good (c.loop-left.left - 1) c.index-spots-at.result (omega arith))
