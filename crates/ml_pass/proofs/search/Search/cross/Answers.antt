use Rattle.std.proofs.Common.{◌≡◌, ◌≤◌, length, arith}
use Rattle.ml_ratio.specs.Fraction.{value_of}
use Rattle.ml_pass.specs.Search.{rivals_in}
use Rattle.ml_pass.proofs.Gathering.{StandsAt, saw_none, turn_left, turn_right, crossed}
use Rattle.ml_pass.proofs.search.Search.cross.Goals as goal

pub loop-seen-init : goal.loop-seen-init
loop-seen-init c = record {
  left = omega arith;
  right = omega arith;
  within = rw c.as_slice.ensures.value at c.south_of-start.ensures.within;
  searched = saw_none c.args.self.now.low.now (rivals_in c.args.self.now.labels.now c.args.self.now.slots.now c.args.self.now.low.now)
      (length c.args.self.now.slots.now) (StandsAt c.args.strip.now.spots.items) c.south_of-start.result (value_of c.args.bound) c.args.places.now.items;
}

pub loop-seen-preserved : goal.loop-seen-preserved
loop-seen-preserved c =
    let i = c.loop-seen.invariant in
    let further = c.in_ok-south.ensures.further in
    let right_stays = c.in_ok-south.ensures.same in
    let left_stays = c.in_ok-seen.ensures.same in
    let on = c.in_ok-seen.ensures.further in
    let before = i.right in
    let fits = i.within in
    let low = i.left in
    let north = rw right_stays at c.in_ok-seen.ensures.searched in
    let south = turn_left c.args.self.now.low.now (rivals_in c.args.self.now.labels.now c.args.self.now.slots.now c.args.self.now.low.now) (length c.args.self.now.slots.now)
    (StandsAt c.args.strip.now.spots.items) c.in_ok-south.south.left c.loop-seen.seen.left c.loop-seen.seen.right _ _ _ _ _ _ i.searched c.in_ok-south.ensures.searched in
    record {
      left = omega arith;
      right = omega arith;
      within = c.in_ok-seen.ensures.within;
      searched = rw left_stays (turn_right c.args.self.now.low.now (rivals_in c.args.self.now.labels.now c.args.self.now.slots.now c.args.self.now.low.now)
          (length c.args.self.now.slots.now) (StandsAt c.args.strip.now.spots.items) c.in_ok-south.south.left c.loop-seen.seen.right c.in_ok-seen.seen.right _ _ _ _ _ _ south north);
    }

pub returns : goal.returns
returns c =
    let none : c.loop-seen.seen.left ≡ 0 = omega arith in
    let all : length c.args.strip.now.spots.items ≤ c.loop-seen.seen.right = omega arith in
    crossed c.args.self.now.labels.now c.args.self.now.slots.now c.args.self.now.low.now c.args.strip.now.spots.items c.args.strip.now.area
    c.requires.strip c.loop-seen.seen.left c.loop-seen.seen.right _ _ _ _ none all c.loop-seen.invariant.searched
