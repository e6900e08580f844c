use Rattle.std.proofs.Common.{arith, refl, ◌≡◌, ◌+◌, ◌-◌, ◌*◌, ◌/◌, ◌∙◌, length, ap}
use Rattle.ml_store.proofs.Orders.{length-shifted, moved_more}
use Rattle.ml_store.proofs.tiers.Tiers.move_within.Goals as goal

pub turn_back-requires : goal.turn_back-requires
turn_back-requires c =
    let all : length c.args.self.now ≡ 32768 = c.requires.all in
    let in' = c.requires.from_place in
    let size : length c.carry_on.new.self ≡ length c.args.self.now = ap length c.carry_on.ensures
    ∙ length-shifted c.args.self.now c.args.from (c.args.from / 128 * 128 + 128 - 1) in' (omega arith) in
    omega arith

pub turn_on-requires : goal.turn_on-requires
turn_on-requires c =
    let all : length c.args.self.now ≡ 32768 = c.requires.all in
    let in' = c.requires.from_place in
    let size : length c.carry_back-else-to-from-3.new.self ≡ length c.args.self.now = ap length c.carry_back-else-to-from-3.ensures
    ∙ length-shifted c.args.self.now c.args.from (c.args.from / 128 * 128) in' (omega arith) in
    omega arith

pub carry_back-requires-else-to-from-3-2-clause-from_place : goal.carry_back-requires-else-to-from-3-2-clause-from_place
carry_back-requires-else-to-from-3-2-clause-from_place c =
    let all : length c.args.self.now ≡ 32768 = c.requires.all in
    let in' = c.requires.from_place in
    let first = c.args.from / 128 * 128 in
    let moved = moved_more c.args.self.now c.carry_back-else-to-from-3.new.self c.turn_on.new.self c.args.from first (first + 127)
    (128 * (c.args.from / 128)) (128 * (c.args.from / 128) + 127)
    in' (omega arith) c.carry_back-else-to-from-3.ensures c.turn_on.ensures (omega arith) (omega arith) in
    let size : length c.turn_on.new.self ≡ length c.args.self.now = ap length moved ∙ length-shifted c.args.self.now c.args.from (first + 127) in'
    (omega arith) in
    omega arith

pub returns-then-to-from : goal.returns-then-to-from
returns-then-to-from c =
    let all : length c.args.self.now ≡ 32768 = c.requires.all in
    let in' = c.requires.from_place in
    let first = c.args.from / 128 * 128 in
    let moved = moved_more c.args.self.now c.carry_on.new.self c.turn_back.new.self c.args.from (first + 128 - 1) first
    (128 * (c.args.from / 128) + 127) (128 * (c.args.from / 128))
    in' (omega arith) c.carry_on.ensures c.turn_back.ensures (omega arith) (omega arith) in
    moved_more c.args.self.now c.turn_back.new.self c.carry_on-then-to-from.new.self c.args.from first c.args.to first c.args.to in' (omega arith)
    moved c.carry_on-then-to-from.ensures refl refl

pub returns-else-to-from-3 : goal.returns-else-to-from-3
returns-else-to-from-3 c =
    let all : length c.args.self.now ≡ 32768 = c.requires.all in
    let in' = c.requires.from_place in
    let first = c.args.from / 128 * 128 in
    let last = first + 128 - 1 in
    let moved = moved_more c.args.self.now c.carry_back-else-to-from-3.new.self c.turn_on.new.self c.args.from first last (128 * (c.args.from / 128))
    (128 * (c.args.from / 128) + 127)
    in' (omega arith) c.carry_back-else-to-from-3.ensures c.turn_on.ensures (omega arith) (omega arith) in
    moved_more c.args.self.now c.turn_on.new.self c.carry_back-else-to-from-3-2.new.self c.args.from last c.args.to last c.args.to in' (omega arith)
    moved c.carry_back-else-to-from-3-2.ensures refl refl
