use Rattle.std.proofs.Common.{◌≡◌, ◌∙◌, ap, refl, Some, None}
use Rattle.ml_cone.specs.declared.label.Label.{Label}
use Rattle.ml_cone.specs.declared.slot.Span.{Span}
use Rattle.ml_watch.specs.declared.change.Change.{Change}
use Rattle.ml_store.specs.Rows.{labels_in}
use Rattle.ml_store.specs.declared.row.Row.{Row}
use Rattle.ml_repair.specs.Placed.{IsPlaceFor}
use Rattle.ml_repair.proofs.Changing.{change_same, edited_change, ranged}
use Rattle.ml_repair.proofs.Plans.{start_settled, in_plan, span_same}
use Rattle.ml_repair.proofs.planning.plan_in.Goals as goal

pub place_for-at-requires : goal.place_for-at-requires
place_for-at-requires g c = rw c.left-roster.ensures.rows c.requires.settled.in_order

pub pass_in-requires-clause-fresh : goal.pass_in-requires-clause-fresh
pass_in-requires-clause-fresh g c = rw c.row_for-row.ensures.number c.free-number.ensures.free

pub pass_in-requires-clause-before : goal.pass_in-requires-clause-before
pass_in-requires-clause-before g c = start_settled c.args.store.now.rows c.new-moves.result c.new-moves.ensures c.requires.settled

pub edit_changes-requires-clause-up : goal.edit_changes-requires-clause-up
edit_changes-requires-clause-up g c = rw c.left-roster.ensures.rows c.requires.settled.in_order

pub edit_changes-requires-clause-own : goal.edit_changes-requires-clause-own
edit_changes-requires-clause-own g c =
    let label : c.pass_in.new.row.label ≡ c.args.label = c.pass_in.ensures.label ∙ c.row_for-row.ensures.label in
    let id : c.in_ok-copy.field-0 ≡ c.args.label.order.id = c.in_ok-copy.ensures ∙ c.id.ensures ∙ ap (λ (l : Label). l.order.id) label in
    rw (c.left-roster.ensures.rows, id) c.requires.new_id

pub returns : goal.returns
returns g c =
    let rows = c.args.store.now.rows in
    let row : Row = c.pass_in.new.row in
    let label : row.label ≡ c.args.label = c.pass_in.ensures.label ∙ c.row_for-row.ensures.label in
    let number : row.number ≡ c.free-number.result = c.pass_in.ensures.number ∙ c.row_for-row.ensures.number in
    let is_row : c.in_ok-row.row.value ≡ row = c.in_ok-row.ensures.ok in
    let place : IsPlaceFor (labels_in rows) row.label.order c.place_for-at.result = rw (label, ← c.order.ensures) (rw c.left-roster.ensures.rows at c.place_for-at.ensures) in
    let edited : Change = record { id = c.in_ok-copy.field-0; before = None; after = Some c.span_of.result } in
    let id : c.in_ok-copy.field-0 ≡ row.label.order.id = c.in_ok-copy.ensures ∙ c.id.ensures in
    let is : edited ≡ edited_change row.label.order.id None (Some (ranged row)) =
    change_same edited (edited_change row.label.order.id None (Some (ranged row))) id refl (ap (λ (x : Span). Some x) (span_same row c.span_of.result c.span_of.ensures.min c.span_of.ensures.until)) in
    in_plan rows c.place_for-at.result row c.in_ok-row.row c.pass_in.new.moves c.in_ok-changes.changes c.in_ok-evaluated.evaluated c.requires.settled (rw label c.requires.new_id) c.requires.few
    (rw number c.free-number.ensures.free) (rw number c.free-number.ensures.low) place c.in_ok-evaluated.ensures.after c.in_ok-evaluated.ensures.kept is_row
    c.in_ok-moved.moved.items (record { same = rw c.left-roster.ensures.rows at c.in_ok-moved.ensures.rows; new = rw c.left-roster.ensures.rows at c.in_ok-moved.ensures.new })
    edited c.args.label _ _ is c.in_ok-changes.ensures.ascending (rw c.left-roster.ensures.rows at c.in_ok-changes.ensures.same) c.in_ok-evaluated.ensures.touched label c.in_ok-evaluated.ensures.spent
