use Rattle.std.proofs.Common.{◌≡◌, ℕ, get_or, inl, inr, arith, ap, subst, ◌∙◌}
use Rattle.std.proofs.lemmas.Bool.{cases_lt}
use Rattle.std.proofs.lemmas.List.{get_or_default}
use Rattle.ml_cone.specs.declared.label.Label.{Label}
use Rattle.ml_conflict.specs.Reach.{Reaches}
use Rattle.ml_conflict.proofs.Distances.{reaches_more}
use Rattle.ml_conflict.proofs.far.greatest_reach.Goals as goal

pub loop-i-init : goal.loop-i-init
loop-i-init c = (omega arith, λ k d lt. absurd (omega arith))

pub loop-i-preserved : goal.loop-i-preserved
loop-i-preserved c =
    let labels = c.args.labels.now in
    let i = c.loop-i.i in
    let a : Label = c.index-labels-i.result in
    let next = c.larger-reach.result in
    let here = reaches_more c.args.axis a c.reach_of.result next c.larger-reach.ensures.second c.reach_of.ensures.reaches in (
      c.larger-reach.ensures.low 576 c.loop-i.invariant.0 c.reach_of.ensures.low,
      λ k d lt. elim (cases_lt k i) [
        | inl less ↦ reaches_more c.args.axis (get_or labels k d) c.loop-i.reach next c.larger-reach.ensures.first (c.loop-i.invariant.1 k d less)
        | inr more ↦
            let same : i ≡ k = omega arith in
            subst (λ (b : Label). Reaches c.args.axis b next) (c.index-labels-i.is ∙ (get_or_default labels i a d c.loop-i-test.true ∙ ap (λ (m : ℕ). get_or labels m d) same)) here
      ],
    )

pub returns : goal.returns
returns c = record { reaches = λ k d lt. c.loop-i.invariant.1 k d (omega arith); low = c.loop-i.invariant.0 }
