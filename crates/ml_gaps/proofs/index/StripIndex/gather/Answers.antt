use Rattle.std.proofs.Common.{◌≡◌, ap, length, get_or, arith, w64, FitsSigned}
use Rattle.std.proofs.lemmas.Int.{ints, to_z-of_z}
use Rattle.ml_gaps.specs.Bundle.{IsOneOf}
use Rattle.ml_gaps.specs.declared.bundle.Bundle.{Bundle}
use Rattle.ml_gaps.specs.declared.strip.Strip.{Strip}
use Rattle.ml_gaps.proofs.Gathering.{gathers_nothing, gathers_next, gathers_all}
use Rattle.ml_gaps.proofs.index.StripIndex.gather.Goals as goal

pub loop-bundle-init : goal.loop-bundle-init
loop-bundle-init c = gathers_nothing _ c.reach_on-reach.result (λ (strip : Strip) (bundle : Bundle). IsOneOf bundle.strips.items strip) c.args.places.now.items

pub loop-bundle-preserved : goal.loop-bundle-preserved
loop-bundle-preserved c =
    let bundles = c.args.self.now.bundles.items in
    let i = c.loop-bundle.bundle-index in
    let bundle = c.bundle-item.result in
    let value = c.deref-bundle-items.ensures.value in
    let sized = ap length value in
    let own : bundle ≡ get_or bundles i bundle = rw value at c.bundle-item.is in
    gathers_next _ c.reach_on-reach.result (λ (strip : Strip) (other : Bundle). IsOneOf other.strips.items strip) bundles i bundle (omega arith) own _ _ _
    c.loop-bundle.invariant c.in_ok-gather.ensures

pub returns : goal.returns
returns c =
    let bundles = c.args.self.now.bundles.items in
    let world = c.anchor_on-at.ensures.world in
    let fits : FitsSigned w64 c.anchor_on-at.result = omega (arith, ints) in
    let sized = ap length c.deref-bundle-items.ensures.value in
    let all = gathers_all _ c.reach_on-reach.result (λ (strip : Strip) (bundle : Bundle). IsOneOf bundle.strips.items strip) bundles c.loop-bundle.bundle-index (omega arith) _ _
    c.loop-bundle.invariant in
    (c.reach_on-reach.result, c.reach_on-reach.ensures.reaches, rw c.anchor_on-at.ensures.is at (simp to_z-of_z at all))
