use Rattle.std.proofs.Common.{◌≡◌, ℕ, subst, arith}
use Rattle.ml_cone.specs.Outline.{OverlapIn}
use Rattle.ml_store.proofs.searching.cells_across.Goals as goal

pub returns-in-Some-clause-whole : goal.returns-in-Some-clause-whole
returns-in-Some-clause-whole c a n within from upto over = c.in-Some.ensures.whole a n within from (omega arith) over

pub returns-in-None-clause-whole : goal.returns-in-None-clause-whole
returns-in-None-clause-whole c a n within from upto over =
    let e : n ≡ c.args.band = omega arith in
    c.around.ensures.whole a within (subst (λ (k : ℕ). OverlapIn c.args.label.now a k) e over)
