use Rattle.std.proofs.Common.{arith, FitsSigned, w64}
use Rattle.std.proofs.lemmas.Int.{ints, to_z-of_z}
use Rattle.ml_ratio.specs.Fraction.{value_of}
use Rattle.ml_flight.proofs.HalfLines.{half_up, half_down}
use Rattle.ml_flight.proofs.solve.narrowed.Goals as goal

pub returns-then-u-ge0 : goal.returns-then-u-ge0
returns-then-u-ge0 c s =
    let fu : FitsSigned w64 c.args.u = c.ranges.u in
    let fv : FitsSigned w64 c.args.v = c.ranges.v in
    let ku = simp to_z-of_z at c.unsigned_abs-far.ensures.value in
    let kv = simp to_z-of_z at c.unsigned_abs-wide.ensures.value in
    let e = half_up c.args.u c.args.v c.unsigned_abs-far.result c.unsigned_abs-wide.result (value_of c.quotient.result) ku kv (omega (arith, ints)) (omega (arith, ints)) c.quotient.ensures s in
    let w = c.above.ensures s in
    (λ h. ((w.0 h).0, e.1 (w.0 h).1), λ h. w.1 (h.0, e.0 h.1))

pub returns-then-v-lt0 : goal.returns-then-v-lt0
returns-then-v-lt0 c s =
    let fu : FitsSigned w64 c.args.u = c.ranges.u in
    let fv : FitsSigned w64 c.args.v = c.ranges.v in
    let ku = simp to_z-of_z at c.unsigned_abs-far.ensures.value in
    let kv = simp to_z-of_z at c.unsigned_abs-wide.ensures.value in
    let e = half_down c.args.u c.args.v c.unsigned_abs-far.result c.unsigned_abs-wide.result
    (value_of c.quotient-then-v-lt0.result) ku kv (omega (arith, ints)) (omega (arith, ints)) c.quotient-then-v-lt0.ensures s in
    let w = c.below.ensures s in
    (λ h. ((w.0 h).0, e.1 (w.0 h).1), λ h. w.1 (h.0, e.0 h.1))
