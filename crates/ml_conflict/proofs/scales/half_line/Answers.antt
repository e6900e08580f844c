use Rattle.std.proofs.Common.{◌≡◌, ◌*◌, arith, FitsSigned, w64, refl}
use Rattle.std.proofs.lemmas.Int.{ints, to_z-of_z}
use Rattle.ml_ratio.specs.Quotient.{worth}
use Rattle.ml_ratio.proofs.lemmas.Fractions.{zero_below}
use Rattle.ml_conflict.proofs.HalfLines.{half_up, half_all, half_down}
use Rattle.ml_conflict.proofs.scales.half_line.Goals as goal

pub returns-then-u-gt0-clause-scales : goal.returns-then-u-gt0-clause-scales
returns-then-u-gt0-clause-scales c s scale =
    let fu : FitsSigned w64 c.args.u = c.ranges.u in
    let fv : FitsSigned w64 c.args.v = c.ranges.v in
    let ku = simp to_z-of_z at c.unsigned_abs-far.ensures.value in
    let kv = simp to_z-of_z at c.unsigned_abs-wide.ensures.value in
    let same : c.new.result.num * c.unsigned_abs-wide.result ≡ c.unsigned_abs-far.result * c.new.result.den = rw (c.new.ensures.num_is, c.new.ensures.den_is) refl in
    let e = half_up c.args.u c.args.v c.unsigned_abs-far.result c.unsigned_abs-wide.result (worth c.new.result) ku kv (omega (arith, ints)) (omega (arith, ints)) same s in
    (λ h. (e.0 h, tt), λ h. e.1 h.0)

pub returns-else-u-gt0-clause-scales : goal.returns-else-u-gt0-clause-scales
returns-else-u-gt0-clause-scales c s scale =
    let fu : FitsSigned w64 c.args.u = c.ranges.u in
    let fv : FitsSigned w64 c.args.v = c.ranges.v in (
      λ h. (zero_below (worth c.new-zero.result) s (omega (arith, c.new-zero.ensures.num_is)) scale, tt),
      λ h. half_all c.args.u c.args.v s scale (omega (arith, ints)) (omega (arith, ints)) (omega (arith, ints)),
    )

pub returns-then-v-lt0-clause-scales : goal.returns-then-v-lt0-clause-scales
returns-then-v-lt0-clause-scales c s scale =
    let fu : FitsSigned w64 c.args.u = c.ranges.u in
    let fv : FitsSigned w64 c.args.v = c.ranges.v in
    let ku = simp to_z-of_z at c.unsigned_abs-far.ensures.value in
    let kv = simp to_z-of_z at c.unsigned_abs-wide.ensures.value in
    let new = c.new-then-v-lt0 in
    let same : c.new-then-v-lt0.result.num * c.unsigned_abs-wide.result ≡ c.unsigned_abs-far.result * c.new-then-v-lt0.result.den =
    rw (c.new-then-v-lt0.ensures.num_is, c.new-then-v-lt0.ensures.den_is) refl in
    let e = half_down c.args.u c.args.v c.unsigned_abs-far.result c.unsigned_abs-wide.result (worth c.new-then-v-lt0.result) ku kv (omega (arith, ints)) (omega (arith, ints)) same s in
    (λ h. (zero_below (worth c.new-zero.result) s (omega (arith, c.new-zero.ensures.num_is)) scale, e.0 h), λ h. e.1 h.1)

pub returns-else-v-lt0-clause-scales : goal.returns-else-v-lt0-clause-scales
returns-else-v-lt0-clause-scales c s scale =
    let fu : FitsSigned w64 c.args.u = c.ranges.u in
    let fv : FitsSigned w64 c.args.v = c.ranges.v in (
      λ h. (zero_below (worth c.new-zero.result) s (omega (arith, c.new-zero.ensures.num_is)) scale, tt),
      λ h. half_all c.args.u c.args.v s scale (omega (arith, ints)) (omega (arith, ints)) (omega (arith, ints)),
    )
