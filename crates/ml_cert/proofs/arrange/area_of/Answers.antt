use Rattle.std.proofs.Common.{◌≡◌, ℕ, get_or, arith, inl, inr, ap, subst, ◌∙◌}
use Rattle.std.proofs.lemmas.Bool.{cases_lt}
use Rattle.std.proofs.lemmas.List.{get_or_default}
use Rattle.ml_cone.specs.declared.label.Label.{Label}
use Rattle.ml_conflict.specs.Area.{IsInArea}
use Rattle.ml_conflict.specs.declared.spot.Spot.{Spot}
use Rattle.ml_cert.proofs.arrange.area_of.Goals as goal

pub loop-k-preserved : goal.loop-k-preserved
loop-k-preserved c k s d lt =
    let labels = c.args.labels.now in
    let spots = c.args.spots.now in
    let at = c.loop-k.k in
    let spot : Spot = c.index-spots-k.result in
    let label : Label = c.index-labels-spots-in-loop-k.result in
    let next = c.with-area.result in
    elim (cases_lt k at) [
      | inl less ↦ c.with-area.ensures.first (get_or labels (get_or spots k s).place d) (c.loop-k.invariant k s d less)
      | inr more ↦
          let same : at ≡ k = omega arith in
          let there = (c.requires.good at spot c.loop-k-test.true).there in
          let here : get_or spots at spot ≡ get_or spots k s = get_or_default spots at spot s c.loop-k-test.true ∙ ap (λ (m : ℕ). get_or spots m s) same in
          let own : label ≡ get_or labels (get_or spots at spot).place d = c.index-labels-spots-in-loop-k.is ∙ get_or_default labels (get_or spots at spot).place label d there in
          subst (λ (p : Spot). IsInArea (get_or labels p.place d) next) here (subst (λ (a : Label). IsInArea a next) own (c.with-area.ensures.second label c.of.ensures))
    ]
