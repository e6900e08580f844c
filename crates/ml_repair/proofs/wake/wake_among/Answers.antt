use Rattle.std.proofs.Common.{◌<◌, arith, take, Contains}
use Rattle.std.proofs.lemmas.List.{take_all}
use Rattle.ml_store.specs.Rows.{labels_in}
use Rattle.ml_repair.proofs.Waking.{woken_none, among_more}
use Rattle.ml_repair.proofs.wake.wake_among.Goals as goal

pub loop-place-init : goal.loop-place-init
loop-place-init c = (
  c.requires.one_each,
  woken_none (labels_in c.args.roster.now) c.args.i c.args.waiting.now (Contains (take 0 c.args.places.now)) (λ k h r. let lt : h.0 < 0 = h.1 in omega arith),
)

pub wake_one-requires-clause-k_is_place : goal.wake_one-requires-clause-k_is_place
wake_one-requires-clause-k_is_place c = c.requires.in_roster c.loop-place.place-index 0 (omega arith)

pub loop-place-preserved : goal.loop-place-preserved
loop-place-preserved c = (
  c.wake_one.ensures.one_each,
  among_more (labels_in c.args.roster.now) c.args.i c.args.waiting.now c.loop-place.waiting c.wake_one.new.waiting c.args.places.now c.loop-place.place-index
      (omega arith) c.loop-place.invariant.1 c.wake_one.ensures.woken c.wake_one.ensures.others,
)

pub returns-clause-woken : goal.returns-clause-woken
returns-clause-woken c = rw (take_all c.loop-place.place-index c.args.places.now (omega arith)) at c.loop-place.invariant.1
