use Rattle.std.proofs.Common.{◌≡◌, ◌∙◌, ◌++◌, ◌∷◌, [], ap, length, arith}
use Rattle.ml_store.specs.Boxes.{unboxed}
use Rattle.ml_store.specs.Rows.{labels_in, slots_in}
use Rattle.ml_store.specs.declared.row.Row.{Row}
use Rattle.ml_repair.proofs.Building.{pushed_read, pushed_in_turn}
use Rattle.ml_repair.proofs.build.push_row.Goals as goal

pub returns-clause-labels : goal.returns-clause-labels
returns-clause-labels c =
    let before = c.args.rows.now.items in
    let b = c.in_ok-row.row in
    rw c.in_ok-push.ensures.items
    (pushed_read (λ (r : Row). r.label) before b ∙ ap (λ (r : Row). labels_in (unboxed before) ++ r.label ∷ []) c.in_ok-row.ensures.ok)

pub returns-clause-slots : goal.returns-clause-slots
returns-clause-slots c =
    let before = c.args.rows.now.items in
    let b = c.in_ok-row.row in
    rw c.in_ok-push.ensures.items
    (pushed_read (λ (r : Row). r.slot) before b ∙ ap (λ (r : Row). slots_in (unboxed before) ++ r.slot ∷ []) c.in_ok-row.ensures.ok)

pub returns-clause-in_turn : goal.returns-clause-in_turn
returns-clause-in_turn c =
    let number : c.in_ok-row.row.value.number ≡ length c.args.rows.now.items = ap (λ (r : Row). r.number) c.in_ok-row.ensures.ok ∙ (let long = c.len.ensures in omega arith) in
    rw c.in_ok-push.ensures.items (pushed_in_turn c.args.rows.now.items c.in_ok-row.row c.requires.in_turn number)
