use Rattle.std.proofs.Common.{◌∙◌, ap}
use Rattle.ml_store.specs.Boxes.{unboxed}
use Rattle.ml_store.specs.Rows.{Stored, labels_in, slots_in}
use Rattle.ml_repair.proofs.Answered.{if_ok}
use Rattle.ml_repair.proofs.Building.{in_turn_settled, own_ids}
use Rattle.ml_repair.proofs.build.settle_all.Goals as goal

pub of-requires-clause-own_ids : goal.of-requires-clause-own_ids
of-requires-clause-own_ids c = own_ids (unboxed c.in_ok-rows.rows.items) c.args.labels.items c.in_ok-rows.ensures.labels c.requires.ordered

pub returns-clause-labels : goal.returns-clause-labels
returns-clause-labels c = if_ok c.of.result _ _ (λ (store : Stored) is. ap (λ (s : Stored). labels_in s.rows) is ∙ c.in_ok-rows.ensures.labels) c.of.ensures

pub returns-clause-settled : goal.returns-clause-settled
returns-clause-settled c =
    if_ok c.of.result _ _
    (λ (store : Stored) is.
    let rows = ap (λ (s : Stored). s.rows) is in
    in_turn_settled c.own_slots.ensures c.same_rivals.ensures store.rows c.args.labels.items c.in_ok-slots.slots c.requires.few (rw rows c.in_ok-rows.ensures.in_turn)
    c.requires.ordered (ap labels_in rows ∙ c.in_ok-rows.ensures.labels)
    (ap slots_in rows ∙ c.in_ok-rows.ensures.slots ∙ c.as_slice-2.ensures) (rw c.as_slice.ensures.value at c.in_ok-slots.ensures.slots))
    c.of.ensures
