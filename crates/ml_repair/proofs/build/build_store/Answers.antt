use Rattle.std.proofs.Common.{arith}
use Rattle.std.proofs.lemmas.List.Sorted.{IsPermutation-sym, Contains-permutation, length_permutation}
use Rattle.ml_repair.proofs.Answered.{if_ok}
use Rattle.ml_repair.proofs.build.build_store.Goals as goal

pub settle_all-requires-clause-few : goal.settle_all-requires-clause-few
settle_all-requires-clause-few c =
    let e = length_permutation c.args.labels c.in_priority_order-ordered.result.items c.in_priority_order-ordered.ensures.same in
    let few = c.requires.few in
    omega arith

pub returns-clause-labels : goal.returns-clause-labels
returns-clause-labels c =
    if_ok c.settle_all.result _ _
    (λ store e label.
    rw e (
      λ h. Contains-permutation c.in_priority_order-ordered.result.items c.args.labels label (IsPermutation-sym _ _ c.in_priority_order-ordered.ensures.same) h,
      λ h. Contains-permutation c.args.labels c.in_priority_order-ordered.result.items label c.in_priority_order-ordered.ensures.same h,
    ))
    c.settle_all.ensures.labels
