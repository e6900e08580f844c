use Rattle.std.proofs.Common.{◌≡◌, ℕ, ℤ, false, ◌-◌, ◌≤ℤ◌, get_or, arith, inl, inr, subst, w64, FitsSigned}
use lib.Signed.{lt_z}
use mir.Val.{to_z, of_z}
use Rattle.std.proofs.lemmas.Bool.{cases_lt}
use Rattle.std.proofs.lemmas.Int.{ints, to_z-of_z}
use Rattle.std.proofs.lemmas.List.{get_or_default}
use Rattle.ml_conflict.specs.declared.spot.Spot.{Spot}
use Rattle.ml_cert.proofs.arrange.end_of.Goals as goal

most_of : (x y : ℤ) → lt_z x y ≡ false → y ≤ℤ x
most_of x y is = grind (arith, ints)

pub loop-to-preserved : goal.loop-to-preserved
loop-to-preserved c i j d from less lt =
    let spots = c.args.spots.now in
    let to = c.loop-to.to in
    let after = c.loop-to.auto.to in
    let e : Spot = c.index-spots-to.result in
    let f : Spot = c.index-spots-to-in-loop-to.result in
    let here : Spot = get_or spots to e in
    let before : Spot = get_or spots (to - 1) f in
    let world_here = here.world_y in
    let world_before = before.world_y in
    let fits_here : FitsSigned w64 here.y = omega (arith, ints) in
    let fits_before : FitsSigned w64 before.y = omega (arith, ints) in
    let h : lt_z (to_z w64 (of_z w64 (get_or spots to e).y)) (to_z w64 (of_z w64 (get_or spots (to - 1) f).y)) ≡ false = c.if-spots-to.false in
    let up : before.y ≤ℤ here.y = most_of here.y before.y (rw (to_z-of_z w64 here.y fits_here, to_z-of_z w64 before.y fits_before) at h) in
    elim (cases_lt j to) [
      | inl old ↦ c.loop-to.invariant i j d from less old
      | inr new ↦
          let same : to ≡ j = omega arith in
          let last : here ≡ get_or spots to d = get_or_default spots to e d (omega arith) in
          let second : before ≡ get_or spots (to - 1) d = get_or_default spots (to - 1) f d (omega arith) in
          let step : (get_or spots (to - 1) d).y ≤ℤ (get_or spots to d).y = subst (λ (s : Spot). (get_or spots (to - 1) d).y ≤ℤ s.y) last (subst (λ (s : Spot). s.y ≤ℤ here.y) second up) in
          subst (λ (k : ℕ). (get_or spots i d).y ≤ℤ (get_or spots k d).y) same
          (elim (cases_lt i (to - 1)) [
            | inl far ↦ let way = c.loop-to.invariant i (to - 1) d from far (omega arith) in omega (arith, ints)
            | inr near ↦ let beside : to - 1 ≡ i = omega arith in subst (λ (k : ℕ). (get_or spots k d).y ≤ℤ (get_or spots to d).y) beside step
          ])
    ]
