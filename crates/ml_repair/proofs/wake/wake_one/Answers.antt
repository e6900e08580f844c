use Rattle.std.proofs.Common.{◌∙◌, inl, sym}
use Rattle.ml_repair.proofs.wake.wake_one.Goals as goal

pub returns-then-has-clause-woken : goal.returns-then-has-clause-woken
returns-then-has-clause-woken c = (λ h. inl h, λ h. sym c.has.ensures ∙ c.if-has.true)
