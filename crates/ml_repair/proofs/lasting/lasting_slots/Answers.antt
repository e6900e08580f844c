use Rattle.std.proofs.Common.{◌≡◌, ◌∙◌, ◌<◌, arith, get_or, length, sym, ℕ, ap}
use Rattle.ml_store.specs.declared.moved.Moved.{Moved}
use Rattle.ml_repair.proofs.LastSlots.{lasting_more, lasting_same, lasting_all}
use Rattle.ml_repair.proofs.lasting.lasting_slots.Goals as goal
use Rattle.ml_repair.proofs.lasting.lasting_slots.Goals.{then-is_new+in_ok-push, else-is_new}

pub loop-m-preserved : goal.loop-m-preserved
loop-m-preserved c =
    let rows = c.args.roster.now in
    let moved = c.args.moves.now in
    let k : ℕ = c.loop-m.m-index in
    let m : Moved = c.m-item.result in
    let len : length c.as_slice-moved.result.now ≡ length moved = ap length c.as_slice-moved.ensures.moved in
    let lt : k < length moved = omega (arith, c.loop-m-test.true) in
    let read : get_or moved k m ≡ m = ap (λ ms. get_or ms k m) (sym c.as_slice-moved.ensures.moved) ∙ sym c.m-item.is in
    elim c.if-is_new.branch [
      | then-is_new+in_ok-push w ↦
          rw (w.lasting-is, w.in_ok-push.ensures.items) (lasting_more rows moved k m c.loop-m.lasting.items c.as_slice-moved.ensures.differ lt read c.loop-m.invariant w.if-is_new.ensures)
      | else-is_new w ↦ rw w.lasting-is (lasting_same rows moved k m c.loop-m.lasting.items c.as_slice-moved.ensures.differ lt read c.loop-m.invariant w.if-is_new.ensures)
    ]

pub returns-clause-rows : goal.returns-clause-rows
returns-clause-rows c =
    let len : length c.as_slice-moved.result.now ≡ length c.args.moves.now = ap length c.as_slice-moved.ensures.moved in
    lasting_all c.args.roster.now c.args.moves.now c.loop-m.lasting.items c.loop-m.m-index (omega arith) c.loop-m.invariant
