use Rattle.std.proofs.Common.{arith, refl, ◌≡◌, ◌+◌, ◌-◌, ◌*◌, ◌/◌, ◌<◌, length}
use Rattle.ml_store.proofs.Orders.{moved_more}
use Rattle.ml_store.proofs.tiers.Tiers.move_on.Goals as goal

pub returns : goal.returns
returns c =
    let all : length c.args.self.now ≡ 32768 = c.requires.all in
    let in' = c.requires.to_place in
    let before = c.requires.from_block in
    let from : c.args.from < length c.args.self.now = omega arith in
    let last = c.args.from / 128 * 128 + 128 - 1 in
    let end = c.args.to / 128 * 128 + 128 - 1 in
    let moved = moved_more c.args.self.now c.move_within.new.self c.pass_on.new.self c.args.from last end (128 * (c.args.from / 128) + 127)
    (128 * (c.args.to / 128) + 127) from (omega arith) c.move_within.ensures c.pass_on.ensures (omega arith) (omega arith) in
    moved_more c.args.self.now c.pass_on.new.self c.move_within-2.new.self c.args.from end c.args.to end c.args.to from (omega arith) moved
    c.move_within-2.ensures refl refl
