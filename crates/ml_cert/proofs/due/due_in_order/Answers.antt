use Rattle.std.proofs.Common.{◌≡◌, arith}
use Rattle.ml_cert.proofs.Dues.{pair_of, due_none, due_more, due_kept, clash_at}
use Rattle.ml_cert.proofs.due.due_in_order.Goals as goal
use Rattle.ml_cert.proofs.due.due_in_order.Goals.{in-Some+else-is_less+then-is_none, in-Some+else-is_less+else-is_none, in_default}

pub loop-j-preserved : goal.loop-j-preserved
loop-j-preserved c =
    let known = c.known_limits.ensures in
    let pair = pair_of c.args.labels.now c.args.slots.now c.args.i c.loop-j.j c.index-labels-i.result c.index-labels-j.result c.index-slots-i.result c.index-slots-j.result
    (omega arith) c.requires.at c.requires.lengths c.index-labels-i.is c.index-labels-j.is c.requires.end in
    elim c.match-limit_up_to.branch [
      | in-Some+else-is_less+then-is_none w ↦
          rw w.due-is (due_more known pair c.loop-j.invariant w.in-Some.ensures.some w.in-Some.ensures.below.0 (omega (arith, w.if-is_less.ensures, w.in-Some.ensures.below.1)) w.if-is_none.ensures)
      | in-Some+else-is_less+else-is_none w ↦ rw w.due-is (due_kept known pair c.loop-j.invariant w.in-Some.ensures.some w.if-is_less.ensures w.if-is_none.ensures)
      | in_default w ↦ rw w.due-is (due_none known pair c.loop-j.invariant w.in_default.ensures.none)
    ]

pub returns-then-is_less : goal.returns-then-is_less
returns-then-is_less c =
    let known = c.known_limits.ensures in
    let pair = pair_of c.args.labels.now c.args.slots.now c.args.i c.loop-j.j c.index-labels-i.result c.index-labels-j.result c.index-slots-i.result c.index-slots-j.result
    (omega arith) c.requires.at c.requires.lengths c.index-labels-i.is c.index-labels-j.is c.requires.end in
    clash_at known pair c.loop-j.invariant c.in-Some.limit c.in-Some.ensures.some c.if-is_less.ensures

pub returns : goal.returns
returns c = let last : c.loop-j.j ≡ c.args.i = omega arith in rw last at c.loop-j.invariant
