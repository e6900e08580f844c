use Rattle.std.proofs.Common.{◌≡◌, ◌∙◌, ap, sym, ◌+◌, ◌<◌, arith, ◌∷◌, length, drop}
use Rattle.std.proofs.lemmas.List.{drop_more}
use Rattle.ml_store.specs.Pairs.{pair_count}
use Rattle.ml_repair.specs.Plan.{moved_pairs}
use Rattle.ml_store.specs.declared.moved.Moved.{Moved}
use Rattle.ml_store.proofs.lemmas.Moved.{pairs_none}
use Rattle.ml_repair.proofs.plan.pairs_for_moved.Goals as goal

pub loop-m-preserved : goal.loop-m-preserved
loop-m-preserved c =
    let i = c.loop-m.m-index in
    let moved = c.args.moved.now in
    let m : Moved = c.m-item.result in
    let lt : i < length moved = omega (arith, c.loop-m-test.true) in
    let next : drop i moved ≡ m ∷ drop (i + 1) moved = drop_more moved i m lt ∙ ap (λ (x : Moved). x ∷ drop (i + 1) moved) (sym c.m-item.is) in
    let rest : moved_pairs (drop i moved) ≡ pair_count m.slot.blocker + moved_pairs (drop (i + 1) moved) = ap moved_pairs next in
    let was = c.loop-m.invariant.rest in
    let low = c.loop-m.invariant.low in
    let now = c.pair_count_of-count.ensures.count in
    let one = c.pair_count_of-count.ensures.low in
    record { rest = omega arith; low = omega arith }

pub returns-clause-count : goal.returns-clause-count
returns-clause-count c =
    let none = pairs_none c.args.moved.now c.loop-m.m-index (omega arith) in
    let was = c.loop-m.invariant.rest in
    omega arith
