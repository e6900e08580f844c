use Rattle.ml_spans.proofs.Found.{some_passing}
use Rattle.ml_spans.proofs.Results.{told}
use Rattle.ml_spans.proofs.span_tree.SpanTree.is_stabbed.Goals as goal

pub returns : goal.returns
returns g c =
    let is = told _ c.has_wanted.ensures in
    let some = some_passing _ _ in
    rw (← c.self.view_is) ((λ e. some.0 (is.0 e)), λ has. is.1 (some.1 has))
