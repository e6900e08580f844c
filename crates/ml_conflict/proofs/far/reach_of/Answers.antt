use Rattle.std.proofs.Common.{◌≡◌, ℕ, ◌<◌, List, length, get_or, inl, inr, arith, ap, subst, ◌∙◌, pos}
use Rattle.std.proofs.lemmas.Bool.{cases_lt}
use Rattle.std.proofs.lemmas.List.{get_or_default}
use Rattle.ml_cone.specs.Overlap.{widened}
use Rattle.ml_cone.specs.declared.label.BoxPx.{BoxPx}
use Rattle.ml_conflict.specs.Reach.{IsWithin}
use Rattle.ml_conflict.proofs.Distances.{within_more}
use Rattle.ml_conflict.proofs.far.reach_of.Goals as goal

pub loop-p-init : goal.loop-p-init
loop-p-init c = (omega arith, λ k d lt. absurd (omega arith))

pub loop-p-preserved : goal.loop-p-preserved
loop-p-preserved c =
    let label = c.args.label.now in
    let i = c.loop-p.p-index in
    let next = c.larger-reach.result in
    let some : BoxPx = record { l = pos 0; b = pos 0; r = pos 0; t = pos 0 } in
    let items = c.as_slice-p-items.ensures ∙ c.boxes.ensures in
    let sized = ap length items in
    let in' : i < length label.boxes = omega (arith, c.loop-p-test.true) in
    let within = subst (IsWithin c.args.axis c.side_of.result) c.widened.ensures.value c.side_of.ensures.within in
    let here : IsWithin c.args.axis next (widened label (get_or c.as_slice-p-items.result.now i some)) = within_more c.args.axis c.side_of.result next
    (widened label (get_or c.as_slice-p-items.result.now i some)) c.larger-reach.ensures.second within in (
      c.larger-reach.ensures.low 576 c.loop-p.invariant.0 c.side_of.ensures.low,
      λ k d lt. elim (cases_lt k i) [
        | inl less ↦ within_more c.args.axis c.loop-p.reach next (widened label (get_or label.boxes k d)) c.larger-reach.ensures.first (c.loop-p.invariant.1 k d less)
        | inr more ↦
            let same : i ≡ k = omega arith in
            subst (λ (p : BoxPx). IsWithin c.args.axis next (widened label p))
            (ap (λ (xs : List BoxPx). get_or xs i some) items ∙ (get_or_default label.boxes i some d in' ∙ ap (λ (m : ℕ). get_or label.boxes m d) same)) here
      ],
    )

pub returns : goal.returns
returns c =
    let items = ap length (c.as_slice-p-items.ensures ∙ c.boxes.ensures) in
    record { reaches = λ k d lt. c.loop-p.invariant.1 k d (omega arith); low = c.loop-p.invariant.0 }
