use Rattle.std.proofs.Common.{refl, arith}
use Rattle.std.specs.Prelude.{insert}
use Rattle.std.proofs.lemmas.List.Edits.{length-insert}
use Rattle.ml_store.specs.Rows.{number_at, labels_in}
use Rattle.ml_store.specs.declared.row.Row.{Row}
use Rattle.ml_repair.specs.Repair.{present_slots}
use Rattle.ml_repair.specs.Roster.{left_rows}
use Rattle.ml_repair.proofs.Edited.{come_start, come_ends, come_here}
use Rattle.ml_repair.proofs.Present.{length-labels}
use Rattle.ml_repair.proofs.pass.settle_coming.Goals as goal

pub settle-requires-clause-ends : goal.settle-requires-clause-ends
settle-requires-clause-ends g c =
    let left = left_rows c.args.gone c.args.store.now.rows in
    let all = insert left c.args.at c.args.row.now in
    let long = length-insert left c.args.at c.args.row.now c.requires.is_place in
    let many = length-labels all in
    rw c.with-roster.ensures.rows
    (come_ends (number_at all) (labels_in all) (present_slots all c.args.moves.now) c.args.at (omega arith)
    (come_start c.own_slots.ensures c.carried.ensures left c.args.at c.args.row.now c.args.moves.now c.args.moves.now c.requires.is_place c.requires.before))

pub returns-clause-own : goal.returns-clause-own
returns-clause-own g c =
    let left = left_rows c.args.gone c.args.store.now.rows in
    let row : Row = record { number = c.args.row.now.number; label = c.args.row.now.label; slot = c.in_ok-slot.slot } in
    come_here c.own_slots.ensures c.carried.ensures left c.args.at c.args.row.now row c.args.moves.now c.requires.is_place
    refl refl c.in_ok-slot.slot refl c.requires.kept (rw c.with-roster.ensures.rows at c.in_ok-slot.ensures.own)
