-- Labels with different ids, once sorted, are a label list.
use Rattle.std.proofs.Common.{◌≡◌, ◌≢◌, List, get_or, ◌∙◌, ap, arith}
use Rattle.std.specs.Fn.{Called}
use Rattle.std.specs.List.{AllPairs}
use Rattle.std.specs.List.Sorted.{IsPermutation, IsSortedBy, IsSortedByClosure}
use Rattle.std.specs.Ordering.{is_lt, is_eq}
use Rattle.std.specs.declared.cmp.Ordering.{Ordering}
use Rattle.std.specs.declared.cmp.Ordering.TheVariants.{Equal}
use Rattle.std.proofs.lemmas.Bool.{and_parts}
use Rattle.std.proofs.lemmas.List.MinMax.{ranks_by}
use Rattle.std.proofs.lemmas.List.Sorted.{answers_always, sorted_far}
use denote.Param.Members.{Mut}
use denote.Ref.{Bor}
use Rattle.ml_ratio.proofs.lemmas.Sorting.{keys_decide, still_differ, turned_less}
use Rattle.ml_cone.specs.Label.{IsLabelList}
use Rattle.ml_cone.specs.Order.{order_cmp, order_total, order_ties}
use Rattle.ml_cone.specs.declared.label.Label.{Label}
use Rattle.ml_cone.specs.declared.order.Order.{Order}

-- two places in the order that tie have the same id
same_id : (one other : Order) → order_cmp one other ≡ Equal → one.id ≡ other.id
same_id one other tie = (keys_decide one.id other.id).0 (and_parts _ _ (order_ties one other ∙ ap is_eq tie)).1

-- of sorted labels with different ids, each stands before all later ones
in_order : (labels : List Label) → IsSortedBy (λ one other. is_lt (order_cmp one.order other.order)) labels → AllPairs (λ one other. one.order.id ≢ other.order.id) labels → IsLabelList labels
in_order labels up differ j i d below within =
    let one = (get_or labels j d).order in
    let other = (get_or labels i d).order in
    let turn = order_total.antisymm one other in
    let apart = differ j i d below within in
    let above = sorted_far _ (ranks_by order_total (λ label. label.order)) labels up j i d (omega arith) within in
    (turn ∙ turned_less (order_cmp other one) above (λ tie. apart (same_id one other (turn ∙ tie))), apart)

-- what a sort makes of labels with different ids, where each call of the closure compares the orders of two labels
pub sorted_labels : {F : Type 0} {g : Mut F (Bor Label × (Bor Label × Unit {0})) Ordering} {f : F} (labels ordered : List Label) → AllPairs (λ one other. one.order.id ≢ other.order.id) labels
    → IsPermutation labels ordered → IsSortedByClosure g f ordered
    → ((f : F) (a : Bor Label × (Bor Label × Unit {0})) (r : Ordering) (f' : F) → Called g f a r f' → r ≡ order_cmp a.0.now.order a.1.0.now.order) → IsLabelList ordered
sorted_labels {g = g} {f = f} labels ordered differ moved up calls =
    in_order ordered
    (up (λ one other. is_lt (order_cmp one.order other.order)) (ranks_by order_total (λ label. label.order))
    (answers_always g (λ a r. is_lt r ≡ is_lt (order_cmp a.0.now.order a.1.0.now.order)) f (λ f a r f' call. ap is_lt (calls f a r f' call))))
    (still_differ (λ label. label.order.id) labels ordered moved differ)
