use Rattle.std.proofs.Common.{◌≤◌, ◌∙◌, sym, refl, length, arith}
use Rattle.std.proofs.lemmas.Map.Text.{btree_map_updates_str}
use Rattle.ml_pass.proofs.TableLemmas.{known_from, new_from, finds_more}
use Rattle.ml_pass.proofs.table.add_label.Goals as goal

pub returns-then-is_some-clause-fault : goal.returns-then-is_some-clause-fault
returns-then-is_some-clause-fault c =
    let before = rw (sym c.in_ok-insert.ensures.old, c.requires.its_id) at (c.requires.finds c.args.id.now) in
    (refl, known_from c.in_ok-insert.field-0 c.args.labels.now c.args.label.order.id before (sym c.is_some.ensures ∙ c.if-is_some.true))

pub returns-then-len-eq-MOST_LABELS-clause-fault :
    goal.returns-then-len-eq-MOST_LABELS-clause-fault
returns-then-len-eq-MOST_LABELS-clause-fault c =
    let before = rw (sym c.in_ok-insert.ensures.old, c.requires.its_id) at (c.requires.finds c.args.id.now) in
    let full : 32768 ≤ length c.args.labels.now = omega arith in
    (new_from c.in_ok-insert.field-0 c.args.labels.now c.args.label.order.id before (sym c.is_some.ensures ∙ c.if-is_some.false), full)

pub returns-clause-finds : goal.returns-clause-finds
returns-clause-finds c =
    rw c.in_ok-push.ensures.ok
    (finds_more c.args.labels.now c.args.label c.args.ids.now c.insert.new.self c.len.result c.len.ensures c.requires.finds
    (rw c.requires.its_id at (btree_map_updates_str c.args.id.now c.args.ids.now c.insert.new.self _ c.in_ok-insert.ensures.updates)))

pub returns-clause-new : goal.returns-clause-new
returns-clause-new c =
    let before = rw (sym c.in_ok-insert.ensures.old, c.requires.its_id) at (c.requires.finds c.args.id.now) in
    new_from c.in_ok-insert.field-0 c.args.labels.now c.args.label.order.id before (sym c.is_some.ensures ∙ c.if-is_some.false)
