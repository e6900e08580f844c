use Rattle.std.proofs.Common.{◌∙◌, ap, sym, ℕ, List}
use Rattle.std.proofs.lemmas.Map.Iter.{rest_more, rest_all}
use Rattle.ml_json.specs.Tree.{pair, Tree}
use Rattle.ml_json.specs.Sorted.{entries_view, onto}
use Rattle.ml_json.specs.declared.lent.Lent.{Lent}
use Rattle.ml_json.proofs.PutLemmas.{onto_push, onto_nothing, pair_rolled}
use Rattle.ml_json.proofs.sorted.list_of_tree.Goals as goal

pub loop-key-init : goal.loop-key-init
loop-key-init c =
    ap (λ ps. onto ps (entries_view c.into_iter-key-iterator.result)) c.in_ok-pairs.ensures.items ∙ ap entries_view c.into_iter-key-iterator.ensures.into_iter_gives.0

pub loop-key-preserved : goal.loop-key-preserved
loop-key-preserved c =
    let rest = rest_more (λ (e : List ℕ × Lent). e) c.loop-key.key-iterator c.next.new.self c.next.result (c.in-Some.key, c.in-Some.value) c.in-Some.is c.next.ensures.steps in
    ap (λ ps. onto ps (entries_view c.next.new.self)) c.in_ok-push.ensures.items
    ∙ onto_push c.loop-key.pairs.items _ (entries_view c.next.new.self)
    ∙ ap (λ (p : List ℕ × Tree). onto c.loop-key.pairs.items (pair p.0 p.1 (entries_view c.next.new.self))) (pair_rolled c.in-Some.key c.in-Some.value)
    ∙ ap (λ es. onto c.loop-key.pairs.items (entries_view es)) (sym rest)
    ∙ c.loop-key.invariant

pub returns : goal.returns
returns c =
    let rest = rest_all (λ (e : List ℕ × Lent). e) c.loop-key.key-iterator c.next.new.self c.next.result c.in-None.is c.next.ensures.steps in
    sym (onto_nothing c.loop-key.pairs.items) ∙ ap (λ es. onto c.loop-key.pairs.items (entries_view es)) (sym rest) ∙ c.loop-key.invariant
