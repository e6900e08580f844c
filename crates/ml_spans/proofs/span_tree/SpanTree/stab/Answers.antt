use Rattle.std.proofs.Common.{Bool, true, ◌&&◌, ◌≡◌, refl}
use Rattle.ml_spans.specs.Search.{is_stabbed}
use Rattle.ml_spans.proofs.Found.{appended}
use Rattle.ml_spans.proofs.Results.{on_ok}
use Rattle.ml_spans.proofs.span_tree.SpanTree.stab.Goals as goal

pub returns-clause-members : goal.returns-clause-members
returns-clause-members g c = rw (← c.self.view_is) (on_ok c.collect.result _ _
    (λ is. appended (is_stabbed g.K.Key.order g.E.Key.order c.args.from.now c.args.to.now c.args.at.now) _ (λ _. refl) _ _ _ is) c.collect.ensures.ok)
