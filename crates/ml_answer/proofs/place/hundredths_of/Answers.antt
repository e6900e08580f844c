use Rattle.std.proofs.Common.{rules, ◌≡◌, ◌<◌, ◌^◌, pos, unsigned_abs, to_z, w64, FitsSigned, arith}
use Rattle.std.proofs.lemmas.Int.{to_z-of_z, to_z_pos}
use Rattle.ml_answer.specs.Svg.{hundredths}
use Rattle.ml_answer.proofs.Sizes.{whole_fits, product_fits, hundredths_size}
use Rattle.ml_answer.proofs.place.hundredths_of.Goals as goal

pub overflow_mul-product : goal.overflow_mul-product
overflow_mul-product c =
    let units : FitsSigned w64 c.args.units = c.ranges.units in
    let whole = whole_fits c.args.units c.requires.apart in
    let den : to_z w64 c.args.scale.den ≡ pos c.args.scale.den = to_z_pos w64 c.args.scale.den (omega (arith, c.args.scale.low_den)) in
    simp (c.den.ensures, den, to_z-of_z) (product_fits c.args.units c.args.scale.den c.requires.apart c.args.scale.low_den)

pub returns-clause-value : goal.returns-clause-value
unfolding hundredths
returns-clause-value c =
    let units : FitsSigned w64 c.args.units = c.ranges.units in
    let whole = whole_fits c.args.units c.requires.apart in
    let product = product_fits c.args.units c.args.scale.den c.requires.apart c.args.scale.low_den in
    let quotient : FitsSigned w64 c.floor_of.result = search rules in
    let den : to_z w64 c.args.scale.den ≡ pos c.args.scale.den = to_z_pos w64 c.args.scale.den (omega (arith, c.args.scale.low_den)) in
    let num : to_z w64 c.args.scale.num ≡ pos c.args.scale.num = to_z_pos w64 c.args.scale.num (omega (arith, c.args.scale.low_num)) in
    let e : c.floor_of.result ≡ hundredths c.args.units c.args.scale = simp (c.den.ensures, c.num.ensures, den, num, to_z-of_z) at c.floor_of.ensures in
    simp to_z-of_z e

pub returns-clause-size : goal.returns-clause-size
unfolding hundredths
returns-clause-size c =
    let units : FitsSigned w64 c.args.units = c.ranges.units in
    let whole = whole_fits c.args.units c.requires.apart in
    let product = product_fits c.args.units c.args.scale.den c.requires.apart c.args.scale.low_den in
    let quotient : FitsSigned w64 c.floor_of.result = search rules in
    let den : to_z w64 c.args.scale.den ≡ pos c.args.scale.den = to_z_pos w64 c.args.scale.den (omega (arith, c.args.scale.low_den)) in
    let num : to_z w64 c.args.scale.num ≡ pos c.args.scale.num = to_z_pos w64 c.args.scale.num (omega (arith, c.args.scale.low_num)) in
    let e : c.floor_of.result ≡ hundredths c.args.units c.args.scale = simp (c.den.ensures, c.num.ensures, den, num, to_z-of_z) at c.floor_of.ensures in
    let low : unsigned_abs c.floor_of.result < 2 ^ 55 = rw e (hundredths_size c.args.units c.args.scale c.requires.apart) in
    simp to_z-of_z low
