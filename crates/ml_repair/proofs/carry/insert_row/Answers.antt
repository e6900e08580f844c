use Rattle.std.proofs.Common.{◌∙◌, sym, arith}
use Rattle.ml_store.specs.Rows.{labels_in}
use Rattle.ml_repair.specs.Placed.{IsPlaceFor}
use Rattle.ml_repair.proofs.Placing.{with_row_is}
use Rattle.ml_repair.proofs.Present.{length-labels}
use Rattle.ml_repair.proofs.carry.insert_row.Goals as goal

pub place_for-at-requires : goal.place_for-at-requires
place_for-at-requires c = rw c.of_all-roster.ensures.rows c.requires.up

pub put-requires-clause-is_place : goal.put-requires-clause-is_place
put-requires-clause-is_place c =
    let place : IsPlaceFor (labels_in c.args.store.now.rows) c.order.result.now c.place_for-at.result = rw c.of_all-roster.ensures.rows at c.place_for-at.ensures in
    let many = length-labels c.args.store.now.rows in
    let le = place.within in
    omega arith

pub returns : goal.returns
returns c =
    c.put.ensures.rows ∙ sym (with_row_is c.args.store.now.rows c.args.row.value c.place_for-at.result
    (rw (← c.deref.ensures, ← c.order.ensures) (rw c.of_all-roster.ensures.rows at c.place_for-at.ensures)))
