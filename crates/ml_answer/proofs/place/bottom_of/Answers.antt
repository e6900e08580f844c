use Rattle.std.proofs.Common.{rules, ◌≡◌, ◌/◌, ◌≤◌, ◌^◌, pos, ◌-ℤ◌, unsigned_abs, to_z, w32, w64, FitsSigned, arith}
use Rattle.std.proofs.lemmas.Int.{ints, to_z-of_z, to_z_pos}
use Rattle.ml_answer.specs.Svg.{hundredths}
use Rattle.ml_answer.proofs.Sizes.{size_le, apart, pixels_fit, place_fits}
use Rattle.ml_answer.proofs.place.bottom_of.Goals as goal

pub returns : goal.returns
returns c =
    let view = c.args.view.now in
    let label = c.args.label.now in
    let p = c.args.p.now in
    let narrow : FitsSigned w32 c.args.p.now.b = search rules in
    let wide : FitsSigned w64 c.args.p.now.b = omega (arith, ints) in
    let half : to_z w64 (c.args.view.now.h / 2) ≡ pos (c.args.view.now.h / 2) = to_z_pos w64 (c.args.view.now.h / 2) (omega (arith, view.low_h)) in
    let few : unsigned_abs (pos (c.args.view.now.h / 2) -ℤ c.args.p.now.b) ≤ 2 ^ 32 =
    size_le (pos (c.args.view.now.h / 2) -ℤ c.args.p.now.b) (2 ^ 32) (omega (arith, ints, view.low_h)) (omega (arith, ints, view.low_h)) in
    let pixels : FitsSigned w64 (pos (c.args.view.now.h / 2) -ℤ c.args.p.now.b) = omega (arith, ints, view.low_h) in
    let scaled = pixels_fit (pos (c.args.view.now.h / 2) -ℤ c.args.p.now.b) few in
    let near = apart c.args.view.now.cy c.args.label.now.y c.args.view.now.world_y c.args.label.now.world_y in
    let one : FitsSigned w64 c.args.view.now.cy = omega (arith, ints, c.args.view.now.world_y) in
    let other : FitsSigned w64 c.args.label.now.y = omega (arith, ints, c.args.label.now.world_y) in
    let between : FitsSigned w64 (c.args.view.now.cy -ℤ c.args.label.now.y) = omega (arith, ints, c.args.view.now.world_y, c.args.label.now.world_y) in
    let part : FitsSigned w64 c.hundredths_of.result = search rules in
    let e : c.hundredths_of.result ≡ hundredths (c.args.view.now.cy -ℤ c.args.label.now.y) c.args.view.now.scale = simp (c.y.ensures, to_z-of_z) at c.hundredths_of.ensures.value in
    let part' : FitsSigned w64 (hundredths (c.args.view.now.cy -ℤ c.args.label.now.y) c.args.view.now.scale) = rw e at part in
    let total = place_fits (pos (c.args.view.now.h / 2) -ℤ c.args.p.now.b) (c.args.view.now.cy -ℤ c.args.label.now.y) c.args.view.now.scale few near in
    simp (half, e, to_z-of_z)
