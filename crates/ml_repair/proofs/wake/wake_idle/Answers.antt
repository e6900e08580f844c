use Rattle.std.proofs.Common.{◌<◌, ◌+◌, arith}
use Rattle.ml_store.specs.Rows.{labels_in}
use Rattle.ml_repair.proofs.Waking.{woken_none, idle_more, waiting_more, woken_all}
use Rattle.ml_repair.proofs.wake.wake_idle.Goals as goal

pub loop-k-init : goal.loop-k-init
loop-k-init c =
    let labels = labels_in c.args.roster.now in
    let none = woken_none labels c.args.i c.args.waiting.now (λ m. m < c.args.i + 1) (λ k h r. let lt : c.args.i < k = r.0 in omega arith) in
    let on = c.next_idle-k in
    (c.requires.one_each, waiting_more labels c.args.i c.args.waiting.now c.args.waiting.now (c.args.i + 1) on.result on.ensures.behind none on.ensures.waiting)

pub loop-k-preserved : goal.loop-k-preserved
loop-k-preserved c =
    let labels = labels_in c.args.roster.now in
    let now = c.wake_one.new.waiting in
    let k = c.loop-k.k in
    let more = idle_more labels c.args.i c.args.waiting.now c.loop-k.waiting now k c.loop-k.invariant.1 c.wake_one.ensures.woken c.wake_one.ensures.others in
    let on = c.next_idle-k-in-loop-k in
    (c.wake_one.ensures.one_each, waiting_more labels c.args.i c.args.waiting.now now (k + 1) on.result on.ensures.behind more on.ensures.waiting)

pub returns-clause-woken : goal.returns-clause-woken
returns-clause-woken c = woken_all c.args.roster.now c.args.i c.loop-k.k c.args.waiting.now c.loop-k.waiting (omega arith) c.loop-k.invariant.1
