use Rattle.std.proofs.Common.{rules}
use Rattle.std.proofs.lemmas.Fn.{always_returns_same}
use Rattle.ml_style.proofs.AdvanceLemmas.{own, fallback}
use Rattle.ml_style.proofs.font.Font.advance.Goals as goal

pub returns-in-Ok-clause-value : goal.returns-in-Ok-clause-value
returns-in-Ok-clause-value c =
    own c.args.self.now c.as_slice-advances.result.now c.in-Ok.place c.args.ch c.index-advances-place.result c.as_slice-advances.ensures c.in-Ok.ensures.bound
    (c.in-Ok.ensures.position (λ a. a.ch) (always_returns_same _ _ _ (λ a r q k. search rules)) c.index-advances-place.result)

pub returns-in-Err-clause-value : goal.returns-in-Err-clause-value
returns-in-Err-clause-value c =
    fallback c.args.self.now c.as_slice-advances.result.now c.in-Err.field-0 c.args.ch c.as_slice-advances.ensures
    (c.in-Err.ensures.position (λ a. a.ch) (always_returns_same _ _ _ (λ a r q k. search rules)))
