use Rattle.std.proofs.Common.{ℕ, List, ◌∙◌, ap, sym, arith}
use Rattle.std.specs.Vec.Iter.{into_iter_items}
use Rattle.std.proofs.lemmas.List.{nil_from_length}
use Rattle.ml_json.specs.Tree.{Tree, Pairs, no_pairs, pair, put_all}
use Rattle.ml_json.specs.Lent.{lent_pairs_view}
use Rattle.ml_json.specs.Sorted.{entries_view}
use Rattle.ml_json.proofs.PutLemmas.{pair_out}
use Rattle.ml_json.proofs.SortedPairs.{ascending_stays}
use Rattle.ml_json.proofs.sorted.tree_of_list.Goals as goal

pub loop-pair-init : goal.loop-pair-init
loop-pair-init c =
    ap (λ es. put_all (entries_view es) (lent_pairs_view (into_iter_items c.into_iter-pair-iterator.result))) c.new-tree.ensures.empty
    ∙ ap (λ ps. put_all no_pairs (lent_pairs_view ps)) c.into_iter-pair-iterator.ensures.into_iter_gives.0
    ∙ ascending_stays (lent_pairs_view c.args.list.pairs.items) c.args.list.ascending

pub loop-pair-preserved : goal.loop-pair-preserved
loop-pair-preserved c =
    let rest : Pairs = lent_pairs_view (into_iter_items c.next.new.self) in
    let next = ap lent_pairs_view c.in-Some.ensures.steps.0 ∙ ap (λ (p : List ℕ × Tree). pair p.0 p.1 rest) (pair_out c.in-Some.pair) in
    ap (λ ps. put_all ps rest) c.in_ok-put_in_tree.ensures ∙ sym (ap (put_all (entries_view c.loop-pair.tree.entries)) next) ∙ c.loop-pair.invariant

pub returns : goal.returns
returns c =
    let none = nil_from_length (into_iter_items c.loop-pair.pair-iterator) (omega (arith, c.loop-pair.pair-iterator.rest.ok.0, c.in-None.ensures.steps.0)) in
    sym (ap (λ ps. put_all (entries_view c.loop-pair.tree.entries) (lent_pairs_view ps)) none) ∙ c.loop-pair.invariant
