use Rattle.std.proofs.Common.{◌≡◌, length, ap, subst, get_or, arith, refl, w64, FitsSigned}
use Rattle.std.proofs.lemmas.Int.{ints, to_z-of_z}
use Rattle.ml_gaps.specs.Strip.{IsPast}
use Rattle.ml_gaps.specs.Bundle.{IsOneOf}
use Rattle.ml_gaps.specs.declared.strip.Strip.{Strip}
use Rattle.ml_gaps.proofs.Bundling.{lies_of}
use Rattle.ml_gaps.proofs.Gathering.{gathers_none, gathers_one, gathers_nothing, gathers_next, gathers_all}
use Rattle.ml_gaps.proofs.bundle.Bundle.gather.Goals as goal
use Rattle.ml_gaps.proofs.bundle.Bundle.gather.Goals.{then-not-is_past+in_ok-push, else-not-is_past}

pub returns-then-is_past : goal.returns-then-is_past
returns-then-is_past c =
    let world = c.requires.world in
    let fits : FitsSigned w64 c.args.at = omega (arith, ints) in
    let past = simp to_z-of_z at (c.is_past.ensures c.if-is_past.true) in
    gathers_none c.args.at c.args.reach (IsOneOf c.args.self.now.strips.items) c.args.places.now.items (λ strip h. past strip (lies_of c.args.self.now strip c.requires.bundle h))

pub loop-strip-init : goal.loop-strip-init
loop-strip-init c = gathers_nothing _ c.args.reach (λ (strip other : Strip). other ≡ strip) c.args.places.now.items

pub loop-strip-preserved : goal.loop-strip-preserved
loop-strip-preserved c =
    let strips = c.args.self.now.strips.items in
    let reach = c.args.reach in
    let i = c.loop-strip.strip-index in
    let strip = c.strip-item.result in
    let value = c.deref-strip-items.ensures.value in
    let sized = ap length value in
    let own : strip ≡ get_or strips i strip = rw value at c.strip-item.is in
    let P : Strip → Strip → Type 0 = λ it other. other ≡ it in
    elim c.if-not-is_past.branch [
      | then-not-is_past+in_ok-push w ↦
          rw (w.places-is, w.in_ok-push.ensures.items)
          (gathers_next _ reach P strips i strip (omega arith) own _ _ _ c.loop-strip.invariant (gathers_one _ reach strip c.loop-strip.places.items))
      | else-not-is_past w ↦
          rw w.places-is
          (gathers_next _ reach P strips i strip (omega arith) own _ _ _ c.loop-strip.invariant
          (gathers_none _ reach (λ other. strip ≡ other) c.loop-strip.places.items (λ other same. subst (IsPast _ reach) same (w.if-not-is_past.ensures refl))))
    ]

pub returns : goal.returns
returns c =
    let world = c.requires.world in
    let fits : FitsSigned w64 c.args.at = omega (arith, ints) in
    let sized = ap length c.deref-strip-items.ensures.value in
    simp to_z-of_z at (gathers_all _ c.args.reach (λ (strip other : Strip). other ≡ strip) c.args.self.now.strips.items c.loop-strip.strip-index (omega arith) _ _ c.loop-strip.invariant)
