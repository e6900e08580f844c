use Rattle.std.proofs.Common.{◌∙◌, subst, sym, List}
use Rattle.ml_store.specs.Boxes.{unboxed}
use Rattle.ml_store.specs.Store.{IsIndex, IsPairIn, Pair}
use Rattle.ml_store.proofs.Gathered.{if_ok}
use Rattle.ml_store.proofs.Index.{index_same}
use Rattle.ml_store.proofs.bulk.blocker_index_of.Goals as goal

pub returns-clause-paired : goal.returns-clause-paired
returns-clause-paired c =
    let rows = unboxed c.args.rows.now in
    let sorted = index_same IsPairIn rows c.in_ok-list_pairs.field-0.items c.in_order-sorted.result.items c.in_order-sorted.ensures.same c.in_ok-list_pairs.ensures.paired in
    if_ok c.of_sorted.result _ _ (λ tree is. subst (λ (pairs : List Pair). IsIndex IsPairIn rows pairs) (sym (is ∙ c.as_slice.ensures.value)) sorted) c.of_sorted.ensures.entries
