use Rattle.std.proofs.Common.{◌<◌, ◌≤◌, ◌≡◌, List, arith, length, get_or, subst}
use Rattle.ml_repair.specs.Moves.{numbers_of}
use Rattle.ml_repair.specs.Plan.{slot_for}
use Rattle.ml_store.specs.declared.moved.Moved.{Moved}
use Rattle.ml_repair.proofs.Gathering.{moved_none, moved_more, moved_all, new_slot, number_read}
use Rattle.ml_repair.proofs.gather.sift_moved.Goals as goal

pub loop-moved-init : goal.loop-moved-init
loop-moved-init c = moved_none c.args.sought.now c.args.bound c.args.out.now

pub sift_moved_one-requires : goal.sift_moved_one-requires
sift_moved_one-requires c =
    let list = c.as_slice-all.result.now in
    let m : Moved = c.moved-item.result in
    let lt : c.loop-moved.moved-index < length list = omega (arith, c.loop-moved-test.true) in
    subst (λ (ms : List Moved). (own : _) → slot_for m.number own ms ≡ m.slot) c.as_slice-all.ensures.moved
    (new_slot list c.loop-moved.moved-index m (rw (← c.as_slice-all.ensures.moved) at c.as_slice-all.ensures.differ) lt c.moved-item.is)

pub loop-moved-preserved : goal.loop-moved-preserved
loop-moved-preserved c =
    let list = c.as_slice-all.result.now in
    let m : Moved = c.moved-item.result in
    let lt : c.loop-moved.moved-index < length list = omega (arith, c.loop-moved-test.true) in
    let same = c.as_slice-all.ensures.moved in
    moved_more c.args.sought.now c.args.out.now c.loop-moved.out c.sift_moved_one.new.out c.args.bound c.loop-moved.next c.in_ok-next.next c.loop-moved.moved-index m.number
    (subst (λ (ms : List Moved). c.loop-moved.moved-index < length ms) same lt)
    (subst (λ (ms : List Moved). get_or (numbers_of ms) c.loop-moved.moved-index 0 ≡ m.number) same (number_read list c.loop-moved.moved-index m lt c.moved-item.is))
    c.loop-moved.invariant c.in_ok-next.ensures

pub returns : goal.returns
returns c =
    let list = c.as_slice-all.result.now in
    moved_all c.args.sought.now c.args.out.now c.loop-moved.out c.args.bound c.loop-moved.next c.loop-moved.moved-index
    (subst (λ (ms : List Moved). length ms ≤ c.loop-moved.moved-index) c.as_slice-all.ensures.moved (omega arith)) c.loop-moved.invariant
