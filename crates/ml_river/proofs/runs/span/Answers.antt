use Rattle.std.proofs.Common.{◌≡◌, ℤ, ◌-ℤ◌, get_or, sym, ap, ◌∙◌, arith, w64, FitsSigned}
use Rattle.std.specs.Prelude.{unsigned_abs}
use Rattle.std.proofs.lemmas.Int.{ints, to_z-of_z}
use Rattle.ml_river.specs.Run.{x_at}
use Rattle.ml_river.proofs.StepLemmas.{x_of}
use Rattle.ml_river.proofs.runs.span.Goals as goal

pub returns : goal.returns
returns c =
    let pw = (get_or c.args.line.now c.args.b c.index-line-b.result).world_x in
    let qw = (get_or c.args.line.now c.args.a c.index-line-a.result).world_x in
    let fp : FitsSigned w64 (get_or c.args.line.now c.args.b c.index-line-b.result).x = omega (arith, ints, pw.0, pw.1) in
    let fq : FitsSigned w64 (get_or c.args.line.now c.args.a c.index-line-a.result).x = omega (arith, ints, qw.0, qw.1) in
    let fd : FitsSigned w64 ((get_or c.args.line.now c.args.b c.index-line-b.result).x -ℤ (get_or c.args.line.now c.args.a c.index-line-a.result).x) = omega (arith, ints, pw.0, pw.1, qw.0, qw.1) in
    let e : c.unsigned_abs.result ≡ unsigned_abs ((get_or c.args.line.now c.args.b c.index-line-b.result).x -ℤ (get_or c.args.line.now c.args.a c.index-line-a.result).x) =
    simp to_z-of_z at c.unsigned_abs.ensures.value in
    let a = x_of c.args.line.now c.args.a c.index-line-a.result c.requires.a_there in
    let b = x_of c.args.line.now c.args.b c.index-line-b.result c.requires.b_there in
    e ∙ (ap (λ (z : ℤ). unsigned_abs (z -ℤ (get_or c.args.line.now c.args.a c.index-line-a.result).x)) (sym b) ∙ ap (λ (z : ℤ). unsigned_abs (x_at c.args.line.now c.args.b -ℤ z)) (sym a))
