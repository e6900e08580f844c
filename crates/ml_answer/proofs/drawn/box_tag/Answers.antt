use Rattle.std.proofs.Common.{rules, ◌≡◌, ◌-ℤ◌, w32, w64, FitsSigned}
use Rattle.std.proofs.lemmas.Int.{to_z-of_z}
use Rattle.ml_answer.specs.Px.{px_text}
use Rattle.ml_answer.proofs.drawn.box_tag.Goals as goal

pub returns : goal.returns
returns c =
    let left : FitsSigned w64 c.left_of.result = search rules in
    let bottom : FitsSigned w64 c.bottom_of.result = search rules in
    let tall : FitsSigned w64 c.extent-height.result = search rules in
    let wide : FitsSigned w64 c.extent-width.result = search rules in
    let l : FitsSigned w32 c.args.p.now.l = search rules in
    let b : FitsSigned w32 c.args.p.now.b = search rules in
    let r : FitsSigned w32 c.args.p.now.r = search rules in
    let t : FitsSigned w32 c.args.p.now.t = search rules in
    let x : c.in_ok-x.x ≡ px_text c.left_of.result = simp to_z-of_z at c.in_ok-x.ensures in
    let y : c.in_ok-y.y ≡ px_text c.bottom_of.result = simp to_z-of_z at c.in_ok-y.ensures in
    let height : c.extent-height.result ≡ c.args.p.now.t -ℤ c.args.p.now.b = simp to_z-of_z at c.extent-height.ensures in
    let width : c.extent-width.result ≡ c.args.p.now.r -ℤ c.args.p.now.l = simp to_z-of_z at c.extent-width.ensures in
    let tag = simp to_z-of_z at c.tag_of.ensures in
    simp (c.as_str.ensures.bytes, c.as_str-2.ensures.bytes, x, y, c.left_of.ensures, c.bottom_of.ensures, height, width) at tag
