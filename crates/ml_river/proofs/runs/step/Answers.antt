use Rattle.std.proofs.Common.{◌+◌, ℤ, get_or, sym, ap, ◌∙◌, arith}
use Rattle.std.specs.Ordering.{int_cmp}
use Rattle.ml_river.specs.Run.{x_at}
use Rattle.ml_river.proofs.StepLemmas.{x_of}
use Rattle.ml_river.proofs.runs.step.Goals as goal

pub returns : goal.returns
returns c =
    let a = x_of c.args.line.now c.args.k c.index-line-k.result (omega arith) in
    let b = x_of c.args.line.now (c.args.k + 1) c.index-line-k-2.result (omega arith) in
    c.cmp.ensures ∙ (ap (λ (z : ℤ). int_cmp z (get_or c.args.line.now (c.args.k + 1) c.index-line-k-2.result).x) (sym a) ∙ ap (λ (z : ℤ). int_cmp (x_at c.args.line.now c.args.k) z) (sym b))
