use Rattle.std.proofs.Common.{w64, FitsSigned}
use Rattle.std.proofs.lemmas.Int.{to_z-of_z}
use Rattle.ml_follow.specs.StateText.{place_words}
use Rattle.ml_follow.proofs.line.four_words.Goals as goal

pub returns : goal.returns
unfolding place_words
returns c =
    let x : FitsSigned w64 c.args.x = c.ranges.x in
    let y : FitsSigned w64 c.args.y = c.ranges.y in
    simp to_z-of_z at c.format.ensures.ok
