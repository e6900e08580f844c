use Rattle.std.proofs.Common.{◌≡◌, ◌∙◌, ◌<◌, sym, ap, ℕ, get_or, length, arith}
use Rattle.std.specs.Prelude.{remove}
use Rattle.std.proofs.lemmas.List.Edits.{length-remove}
use Rattle.ml_cone.specs.declared.label.Label.{Label}
use Rattle.ml_store.specs.Rows.{labels_in, number_at}
use Rattle.ml_store.specs.declared.row.Row.{Row}
use Rattle.ml_repair.specs.Placed.{IsPlaceFor}
use Rattle.ml_repair.specs.Plan.{slot_for}
use Rattle.ml_repair.proofs.Plans.{start_settled, instead_plan, spent_both, up_removed, number_gone, number_low, between_own}
use Rattle.ml_repair.proofs.Shapes.{left_no_id}
use Rattle.ml_repair.proofs.planning.plan_instead.Goals as goal

pub place_of_id-at-requires : goal.place_of_id-at-requires
place_of_id-at-requires g c = rw c.id.ensures c.requires.live

pub pass_out-requires-clause-before : goal.pass_out-requires-clause-before
pass_out-requires-clause-before g c = start_settled c.args.store.now.rows c.new-moves.result c.new-moves.ensures c.requires.settled

pub place_for-to-requires : goal.place_for-to-requires
place_for-to-requires g c = rw c.left-roster.ensures.rows (up_removed c.args.store.now.rows c.place_of_id-at.result c.requires.settled c.place_of_id-at.ensures.place)

pub pass_in-requires-clause-few : goal.pass_in-requires-clause-few
pass_in-requires-clause-few g c =
    let n = length-remove c.args.store.now.rows c.place_of_id-at.result c.place_of_id-at.ensures.place in
    let few = c.requires.settled.few in
    omega arith

pub pass_in-requires-clause-fresh : goal.pass_in-requires-clause-fresh
pass_in-requires-clause-fresh g c =
    rw c.row_for-row.ensures.number (number_gone c.args.store.now.rows c.place_of_id-at.result c.row-old.result.now c.requires.settled c.place_of_id-at.ensures.place
    (sym (c.row-old.ensures.row c.row-old.result.now)))

pub pass_in-requires-clause-low : goal.pass_in-requires-clause-low
pass_in-requires-clause-low g c =
    rw c.row_for-row.ensures.number (number_low c.args.store.now.rows c.place_of_id-at.result c.row-old.result.now c.requires.settled c.place_of_id-at.ensures.place
    (sym (c.row-old.ensures.row c.row-old.result.now)))

pub pass_in-requires-clause-kept : goal.pass_in-requires-clause-kept
pass_in-requires-clause-kept g c own =
    let old = c.row-old.result.now in
    let number : c.row_for-row.result.number ≡ number_at c.args.store.now.rows c.place_of_id-at.result =
    c.row_for-row.ensures.number ∙ sym (c.row-old.ensures.number) in
    rw number (c.in_ok-gone.ensures.kept own ∙ ap (slot_for (number_at c.args.store.now.rows c.place_of_id-at.result) own) c.new-moves.ensures)

pub change_between-requires : goal.change_between-requires
change_between-requires g c =
    let old = c.row-old.result.now in
    let label : c.pass_in.new.row.label ≡ c.args.label = c.pass_in.ensures.label ∙ c.row_for-row.ensures.label in
    ap (λ (t : Row). t.label.order.id) (sym (c.row-old.ensures.row old)) ∙ c.place_of_id-at.ensures.here old ∙ c.id.ensures ∙ ap (λ (l : Label). l.order.id) (sym label)

pub edit_changes-requires-clause-up : goal.edit_changes-requires-clause-up
edit_changes-requires-clause-up g c = rw c.left-roster.ensures.rows (up_removed c.args.store.now.rows c.place_of_id-at.result c.requires.settled c.place_of_id-at.ensures.place)

pub edit_changes-requires-clause-own : goal.edit_changes-requires-clause-own
edit_changes-requires-clause-own g c =
    let rows = c.args.store.now.rows in
    let label : c.pass_in.new.row.label ≡ c.args.label = c.pass_in.ensures.label ∙ c.row_for-row.ensures.label in
    let id : c.id.result.now ≡ c.pass_in.new.row.label.order.id = c.id.ensures ∙ ap (λ (l : Label). l.order.id) (sym label) in
    rw c.left-roster.ensures.rows
    (between_own c.row-old.result.now c.pass_in.new.row c.in_ok-edited.edited (labels_in (remove rows c.place_of_id-at.result)) c.in_ok-edited.ensures
    (rw id at (left_no_id rows c.place_of_id-at.result c.id.result.now c.requires.settled.in_order c.place_of_id-at.ensures.place c.place_of_id-at.ensures.here)))

pub returns : goal.returns
returns g c =
    let rows = c.args.store.now.rows in
    let row : Row = c.pass_in.new.row in
    let at : ℕ = c.place_of_id-at.result in
    let to : ℕ = c.place_for-to.result in
    let old : Row = c.row-old.result.now in
    let lt : at < length rows = c.place_of_id-at.ensures.place in
    let read = sym (c.row-old.ensures.row old) in
    let label : row.label ≡ c.args.label = c.pass_in.ensures.label ∙ c.row_for-row.ensures.label in
    let number : row.number ≡ old.number = c.pass_in.ensures.number ∙ c.row_for-row.ensures.number in
    let is_row : c.in_ok-row.row.value ≡ row = c.in_ok-row.ensures.ok in
    let here : (d : Row) → (get_or rows at d).label.order.id ≡ row.label.order.id = λ d. c.place_of_id-at.ensures.here d ∙ c.id.ensures ∙ ap (λ (l : Label). l.order.id) (sym label) in
    let few : length (remove rows at) < 32768 = (let n = length-remove rows at lt in let few = c.requires.settled.few in omega arith) in
    let place : IsPlaceFor (labels_in (remove rows at)) row.label.order to = rw (label, ← c.order.ensures) (rw c.left-roster.ensures.rows at c.place_for-to.ensures) in
    instead_plan rows at to row c.in_ok-row.row c.pass_in.new.moves c.in_ok-changes.changes c.in_ok-gone.gone c.in_ok-come.come c.requires.settled lt here (rw label c.requires.live) few
    (rw number (number_gone rows at old c.requires.settled lt read)) (rw number (number_low rows at old c.requires.settled lt read)) place c.in_ok-come.ensures.after c.in_ok-come.ensures.kept is_row
    c.in_ok-moved.moved.items (record { same = rw c.left-roster.ensures.rows at c.in_ok-moved.ensures.rows; new = rw c.left-roster.ensures.rows at c.in_ok-moved.ensures.new })
    old c.in_ok-edited.edited c.args.label _ _ (at, lt, sym read) (ap (λ (t : Row). t.label.order.id) read ∙ here old)
    (λ d. ap (λ (t : Row). t.number) (c.row-old.ensures.row d) ∙ sym number) c.in_ok-edited.ensures c.in_ok-changes.ensures.ascending
    (rw c.left-roster.ensures.rows at c.in_ok-changes.ensures.same) c.in_ok-gone.ensures.touched c.in_ok-come.ensures.touched label
    (spent_both _ _ _ _ _ c.in_ok-gone.ensures.spent c.in_ok-come.ensures.spent)
