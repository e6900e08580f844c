use Rattle.std.proofs.Common.{arith, refl, ◌≡◌, ◌*◌, ◌/◌, length}
use Rattle.ml_store.proofs.Orders.{moved_more}
use Rattle.ml_store.proofs.tiers.Tiers.move_back.Goals as goal

pub returns : goal.returns
returns c =
    let all : length c.args.self.now ≡ 32768 = c.requires.all in
    let in' = c.requires.from_place in
    let block = c.args.from / 128 in
    let other = c.args.to / 128 in
    let moved = moved_more c.args.self.now c.move_within.new.self c.pass_back.new.self c.args.from (block * 128) (other * 128) (128 * block)
    (128 * other)
    in' (omega arith) c.move_within.ensures c.pass_back.ensures (omega arith) (omega arith) in
    moved_more c.args.self.now c.pass_back.new.self c.move_within-2.new.self c.args.from (other * 128) c.args.to (other * 128) c.args.to in'
    (omega arith) moved c.move_within-2.ensures refl refl
