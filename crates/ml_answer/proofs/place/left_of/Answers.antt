use Rattle.std.proofs.Common.{rules, ◌≡◌, ◌/◌, ◌≤◌, ◌^◌, pos, ◌+ℤ◌, ◌-ℤ◌, unsigned_abs, to_z, w32, w64, FitsSigned, arith}
use Rattle.std.proofs.lemmas.Int.{ints, to_z-of_z, to_z_pos}
use Rattle.ml_answer.specs.Svg.{hundredths}
use Rattle.ml_answer.proofs.Sizes.{size_le, apart, pixels_fit, place_fits}
use Rattle.ml_answer.proofs.place.left_of.Goals as goal

pub returns : goal.returns
returns c =
    let view = c.args.view.now in
    let label = c.args.label.now in
    let p = c.args.p.now in
    let narrow : FitsSigned w32 c.args.p.now.l = search rules in
    let wide : FitsSigned w64 c.args.p.now.l = omega (arith, ints) in
    let half : to_z w64 (c.args.view.now.w / 2) ≡ pos (c.args.view.now.w / 2) = to_z_pos w64 (c.args.view.now.w / 2) (omega (arith, view.low_w)) in
    let few : unsigned_abs (pos (c.args.view.now.w / 2) +ℤ c.args.p.now.l) ≤ 2 ^ 32 =
    size_le (pos (c.args.view.now.w / 2) +ℤ c.args.p.now.l) (2 ^ 32) (omega (arith, ints, view.low_w)) (omega (arith, ints, view.low_w)) in
    let pixels : FitsSigned w64 (pos (c.args.view.now.w / 2) +ℤ c.args.p.now.l) = omega (arith, ints, view.low_w) in
    let scaled = pixels_fit (pos (c.args.view.now.w / 2) +ℤ c.args.p.now.l) few in
    let near = apart c.args.label.now.x c.args.view.now.cx c.args.label.now.world_x c.args.view.now.world_x in
    let one : FitsSigned w64 c.args.label.now.x = omega (arith, ints, c.args.label.now.world_x) in
    let other : FitsSigned w64 c.args.view.now.cx = omega (arith, ints, c.args.view.now.world_x) in
    let between : FitsSigned w64 (c.args.label.now.x -ℤ c.args.view.now.cx) = omega (arith, ints, c.args.label.now.world_x, c.args.view.now.world_x) in
    let part : FitsSigned w64 c.hundredths_of.result = search rules in
    let e : c.hundredths_of.result ≡ hundredths (c.args.label.now.x -ℤ c.args.view.now.cx) c.args.view.now.scale = simp (c.x.ensures, to_z-of_z) at c.hundredths_of.ensures.value in
    let part' : FitsSigned w64 (hundredths (c.args.label.now.x -ℤ c.args.view.now.cx) c.args.view.now.scale) = rw e at part in
    let total = place_fits (pos (c.args.view.now.w / 2) +ℤ c.args.p.now.l) (c.args.label.now.x -ℤ c.args.view.now.cx) c.args.view.now.scale few near in
    simp (half, e, to_z-of_z)
