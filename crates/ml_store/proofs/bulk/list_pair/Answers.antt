use Rattle.std.proofs.Common.{◌≢◌, refl, ◌∙◌}
use Rattle.std.proofs.lemmas.List.{get_or_default}
use Rattle.std.proofs.lemmas.List.Quantifiers.{all_pairs_push}
use Rattle.ml_spans.specs.Spans.{entry_of}
use Rattle.ml_store.specs.Store.{Pair}
use Rattle.ml_store.proofs.bulk.list_pair.Goals as goal

pub returns-in_ok-push-in-Some-clause-apart : goal.returns-in_ok-push-in-Some-clause-apart
returns-in_ok-push-in-Some-clause-apart c =
    let p : Pair = entry_of c.in-Some.b 0 c.args.number in
    let new = rw c.in-Some.is at c.requires.new in
    rw c.in_ok-push-in-Some.ensures.items
    (all_pairs_push (λ (one other : Pair). one ≢ other) c.args.pairs.now.items p c.requires.apart (λ k d lt same. new p refl (k, lt, get_or_default c.args.pairs.now.items k p d lt ∙ same)))
