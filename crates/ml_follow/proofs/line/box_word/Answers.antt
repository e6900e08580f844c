use Rattle.std.proofs.Common.{w32, FitsSigned, rules}
use Rattle.std.proofs.lemmas.Int.{to_z-of_z}
use Rattle.ml_follow.proofs.line.box_word.Goals as goal

pub returns : goal.returns
returns c =
    let l : FitsSigned w32 c.args.p.now.l = search rules in
    let b : FitsSigned w32 c.args.p.now.b = search rules in
    let r : FitsSigned w32 c.args.p.now.r = search rules in
    let t : FitsSigned w32 c.args.p.now.t = search rules in
    simp to_z-of_z at c.format.ensures.ok
