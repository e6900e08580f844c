use Rattle.std.proofs.Common.{◌∙◌, ap, map, rules}
use Rattle.ml_ratio.proofs.lemmas.Sorting.{sorted_by_key}
use Rattle.ml_store.specs.Boxes.{unboxed}
use Rattle.ml_store.specs.declared.sorted.Named.{Named}
use Rattle.ml_store.proofs.Gathered.{if_ok}
use Rattle.ml_store.proofs.SortedNames.{are_by_name, ids_differ}
use Rattle.ml_store.proofs.sorted.by_name.Goals as goal

pub returns-clause-by_name : goal.returns-clause-by_name
returns-clause-by_name c =
    let rows = unboxed c.args.rows.now in
    let names = c.in_ok-names.names.items in
    let sorted = c.sort_unstable_by.new.self.items in
    let differ = ids_differ names rows c.in_ok-names.ensures c.requires in
    let up = sorted_by_key (λ (n : Named). n.id.now) names sorted differ c.sort_unstable_by.ensures.permutation c.sort_unstable_by.ensures.sorted (λ f a r f' call. search rules) in
    if_ok c.numbers_of.result _ _
    (λ numbers is. are_by_name names sorted rows numbers.items c.in_ok-names.ensures c.sort_unstable_by.ensures.permutation up (is ∙ ap (map (λ (n : Named). n.number)) c.as_slice.ensures.value))
    c.numbers_of.ensures
