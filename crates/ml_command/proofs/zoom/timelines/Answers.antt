use Rattle.std.proofs.Common.{◌≡◌, ◌<◌, [], length, arith}
use Rattle.std.proofs.lemmas.List.{get_or_default}
use Rattle.ml_command.proofs.ZoomLemmas.{no_stays, more_stays}
use Rattle.ml_command.proofs.zoom.timelines.Goals as goal

pub loop-i-init : goal.loop-i-init
loop-i-init c = rw c.new-all.ensures (no_stays c.args.labels.now c.args.slots.now c.args.window.now)

pub loop-i-preserved : goal.loop-i-preserved
loop-i-preserved c =
    let within : c.loop-i.i < length c.args.labels.now = omega arith in
    rw c.in_ok-push.ensures.ok
    (more_stays c.args.labels.now c.args.slots.now c.args.window.now c.loop-i.i c.loop-i.all c.index-labels-i.result
    c.index-slots-i.result c.in_ok-its.its c.loop-i.invariant within c.requires.one_each
    c.index-labels-i.is c.index-slots-i.is c.in_ok-its.ensures.stays c.in_ok-its.ensures.apart)

pub returns-clause-timelines : goal.returns-clause-timelines
returns-clause-timelines c =
    let first = c.loop-i.invariant in
    let count : length c.loop-i.all ≡ length c.args.labels.now = (let n = first.count in let done = c.loop-i-test.false in let far = c.loop-i.auto.i-end in omega arith) in
    record { one_each = count; stays = λ i d less. first.stays i d (let n = first.count in omega arith) }

pub returns-clause-apart : goal.returns-clause-apart
returns-clause-apart c = λ k d less.
    let first = c.loop-i.invariant in
    let low : k < c.loop-i.i = (let n = first.count in omega arith) in
    rw (get_or_default c.loop-i.all k d [] less) (first.apart k low)
