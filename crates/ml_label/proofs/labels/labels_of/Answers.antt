use Rattle.std.proofs.Common.{arith}
use Rattle.std.proofs.lemmas.List.Sorted.{length_permutation}
use Rattle.ml_label.proofs.LabelsLemmas.{few, own_ids}
use Rattle.ml_label.proofs.labels.labels_of.Goals as goal

pub in_priority_order-requires : goal.in_priority_order-requires
in_priority_order-requires c = record { differ = own_ids c.args.style.now c.args.features.now c.in_ok-labels.labels.items c.in_ok-labels.ensures c.requires.differ }

pub returns-clause-few : goal.returns-clause-few
returns-clause-few c =
    let same = length_permutation c.in_ok-labels.labels.items c.in_priority_order.result.items c.in_priority_order.ensures.same in
    omega (arith, few c.args.style.now c.args.features.now c.in_ok-labels.labels.items c.in_ok-labels.ensures)
