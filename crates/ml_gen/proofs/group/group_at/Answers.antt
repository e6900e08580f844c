use Rattle.std.proofs.Common.{◌+◌, ◌%◌, ◌<◌, length, pos, arith}
use Rattle.std.proofs.lemmas.Nat.{mod_below}
use Rattle.ml_gen.proofs.Orders.{group_there}
use Rattle.ml_gen.proofs.group.group_at.Goals as goal

pub returns-clause-is : goal.returns-clause-is
returns-clause-is c =
    let n = length c.args.groups.now in
    let low : (c.args.turn + c.args.seed) % length c.args.groups.now < length c.args.groups.now = mod_below (c.args.turn + c.args.seed) (length c.args.groups.now) (omega arith) in
    group_there c.args.groups.now c.args.seed ((c.args.turn + c.args.seed) % length c.args.groups.now) (record { number = 0; x = pos 0; y = pos 0 }) c.requires.all low

pub returns-clause-placed : goal.returns-clause-placed
returns-clause-placed c =
    let low : (c.args.turn + c.args.seed) % length c.args.groups.now < length c.args.groups.now = mod_below (c.args.turn + c.args.seed) (length c.args.groups.now) (omega arith) in
    c.requires.placed ((c.args.turn + c.args.seed) % length c.args.groups.now) (record { number = 0; x = pos 0; y = pos 0 }) low
