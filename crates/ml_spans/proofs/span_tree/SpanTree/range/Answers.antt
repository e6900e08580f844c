use Rattle.std.proofs.Common.{Bool, true, false, ◌&&◌, ◌≡◌, refl}
use Rattle.ml_spans.specs.Search.{is_in_range}
use Rattle.ml_spans.proofs.Found.{appended}
use Rattle.ml_spans.proofs.Results.{on_ok}
use Rattle.ml_spans.proofs.span_tree.SpanTree.range.Goals as goal

and_true : (b : Bool) → (b && true) ≡ b
and_true true = refl
and_true false = refl

pub returns-clause-members : goal.returns-clause-members
returns-clause-members g c = rw (← c.self.view_is)
    (on_ok c.collect.result _ _ (λ is. appended (is_in_range g.K.Key.order c.args.from.now c.args.to.now) _ (λ entry. and_true _) _ _ _ is) c.collect.ensures.ok)
