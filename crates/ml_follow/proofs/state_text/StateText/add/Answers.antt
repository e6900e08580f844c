use Rattle.std.proofs.Common.{◌++◌, ℕ, List, ◌∙◌, ap₂}
use Rattle.ml_follow.proofs.Texts.{begun_push}
use Rattle.ml_follow.proofs.state_text.StateText.add.Goals as goal

pub returns-clause-begun : goal.returns-clause-begun
returns-clause-begun c rev count labels slots long begun =
    let line = c.deref.ensures.value ∙ c.in_ok-line.ensures in
    let e = c.in_ok-extend_from_slice.ensures.items ∙ ap₂ (λ (a b : List ℕ). a ++ b) c.self.view_is line in
    begun_push rev count labels slots c.args.label.now (record { until = c.args.until; blocker = c.args.blocker }) c.args.self.now c.extend_from_slice.new.self.items e long begun
