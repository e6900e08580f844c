use Rattle.std.proofs.Common.{◌≡◌, ◌≤◌, length, arith}
use Rattle.ml_ratio.specs.Fraction.{value_of}
use Rattle.ml_pass.specs.Search.{rivals_in}
use Rattle.ml_pass.proofs.Gathering.{LiesAt, turn_left, turn_right, gathered}
use Rattle.ml_pass.proofs.search.Search.gather.Goals as goal

pub loop-seen-preserved : goal.loop-seen-preserved
loop-seen-preserved c =
    let i = c.loop-seen.invariant in
    let further = c.in_ok-east.ensures.further in
    let left_stays = c.in_ok-east.ensures.same in
    let right_stays = c.in_ok-seen.ensures.same in
    let on = c.in_ok-seen.ensures.further in
    let in' = c.in_ok-east.ensures.within in
    let before = i.right in
    let fits = i.within in
    let low = i.left in
    let west = rw left_stays at c.in_ok-seen.ensures.searched in
    let east = turn_right c.args.self.now.low.now (rivals_in c.args.self.now.labels.now c.args.self.now.slots.now c.args.self.now.low.now) (length c.args.self.now.slots.now)
    (LiesAt c.args.field.now.strips.items) c.loop-seen.seen.left c.loop-seen.seen.right c.in_ok-east.east.right _ _ _ _ _ _ i.searched c.in_ok-east.ensures.searched in
    record {
      left = omega arith;
      right = omega arith;
      within = omega arith;
      searched = rw right_stays (turn_left c.args.self.now.low.now (rivals_in c.args.self.now.labels.now c.args.self.now.slots.now c.args.self.now.low.now)
          (length c.args.self.now.slots.now) (LiesAt c.args.field.now.strips.items) c.in_ok-seen.seen.left c.loop-seen.seen.left c.in_ok-east.east.right _ _ _ _ _ _ east west);
    }

pub returns : goal.returns
returns c =
    let none : c.loop-seen.seen.left ≡ 0 = omega arith in
    let all : length c.args.field.now.strips.items ≤ c.loop-seen.seen.right = omega arith in (
      value_of c.loop-seen.seen.bound,
      gathered c.idle_labels.ensures c.args.self.now.labels.now c.args.self.now.slots.now c.args.self.now.low.now c.args.field.now.strips.items
          c.requires.held c.loop-seen.seen.left c.loop-seen.seen.right _ _ _ _ none all c.loop-seen.invariant.searched,
    )
