use Rattle.std.proofs.Common.{◌≡◌, ◌∙◌, sym, ap, refl, ℕ, List, [], Some, None}
use Rattle.ml_cone.specs.declared.slot.Span.{Span}
use Rattle.ml_watch.specs.declared.change.Change.{Change}
use Rattle.ml_store.specs.declared.row.Row.{Row}
use Rattle.ml_repair.proofs.Changing.{change_same, edited_change, ranged}
use Rattle.ml_repair.proofs.Plans.{start_settled, out_plan, up_out, span_same}
use Rattle.ml_repair.proofs.Shapes.{left_no_id}
use Rattle.ml_repair.proofs.planning.plan_out.Goals as goal

pub pass_out-requires-clause-before : goal.pass_out-requires-clause-before
pass_out-requires-clause-before g c = start_settled c.args.store.now.rows c.new-moves.result c.new-moves.ensures c.requires.settled

pub edit_changes-requires-clause-up : goal.edit_changes-requires-clause-up
edit_changes-requires-clause-up g c = rw c.left-roster.ensures.rows (up_out c.args.store.now.rows c.place_of_id-at.result c.args.id.now c.pass_out.new.moves
    [] 0 c.requires.settled c.place_of_id-at.ensures.place c.place_of_id-at.ensures.here c.requires.live c.in_ok-evaluated.ensures.after)

pub edit_changes-requires-clause-own : goal.edit_changes-requires-clause-own
edit_changes-requires-clause-own g c = rw (c.left-roster.ensures.rows, c.in_ok-copy.ensures)
    (left_no_id c.args.store.now.rows c.place_of_id-at.result c.args.id.now c.requires.settled.in_order c.place_of_id-at.ensures.place c.place_of_id-at.ensures.here)

pub returns : goal.returns
returns g c =
    let rows = c.args.store.now.rows in
    let id : List ℕ = c.in_ok-id.id in
    let same : id ≡ c.args.id.now = c.in_ok-id.ensures in
    let r : Row = c.row.result.now in
    let at = c.place_of_id-at.result in
    let lt = c.place_of_id-at.ensures.place in
    let edited : Change = record { id = c.in_ok-copy.field-0; before = Some c.span_of.result; after = None } in
    let its : c.in_ok-copy.field-0 ≡ id = c.in_ok-copy.ensures ∙ sym same in
    let is : edited ≡ edited_change id (Some (ranged r)) None =
    change_same edited (edited_change id (Some (ranged r)) None) its (ap (λ (x : Span). Some x) (span_same r c.span_of.result c.span_of.ensures.min c.span_of.ensures.until)) refl in
    out_plan rows at id c.pass_out.new.moves c.in_ok-changes.changes c.in_ok-evaluated.evaluated c.requires.settled lt
    (rw same c.place_of_id-at.ensures.here) (rw same c.requires.live) c.in_ok-evaluated.ensures.after
    c.in_ok-moved.moved.items (record { same = rw c.left-roster.ensures.rows at c.in_ok-moved.ensures.rows; new = rw c.left-roster.ensures.rows at c.in_ok-moved.ensures.new })
    r edited c.args.id.now _ _ (at, lt, c.row.ensures.row r)
    (ap (λ (t : Row). t.label.order.id) (sym (c.row.ensures.row r)) ∙ c.place_of_id-at.ensures.here r ∙ sym same) is c.in_ok-changes.ensures.ascending
    (rw c.left-roster.ensures.rows at c.in_ok-changes.ensures.same) c.in_ok-evaluated.ensures.touched same c.in_ok-evaluated.ensures.spent
