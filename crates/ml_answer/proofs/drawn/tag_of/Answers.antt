use Rattle.std.proofs.Common.{w64, FitsSigned}
use Rattle.std.proofs.lemmas.Int.{to_z-of_z}
use Rattle.ml_answer.specs.Svg.{text_tag}
use Rattle.ml_answer.proofs.drawn.tag_of.Goals as goal

pub returns : goal.returns
unfolding text_tag
returns c =
    let tall : FitsSigned w64 c.args.height = c.ranges.height in
    let wide : FitsSigned w64 c.args.width = c.ranges.width in
    simp to_z-of_z at c.format.ensures.ok
