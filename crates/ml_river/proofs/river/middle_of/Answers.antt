use Rattle.std.proofs.Common.{rules, ◌≡◌, ◌-◌, length, get_or, ℤ, pos, ◌+ℤ◌, ◌≤ℤ◌, sym, refl, ap, ◌∙◌, arith, w64, FitsSigned}
use Rattle.std.proofs.lemmas.Int.{ints, to_z-of_z}
use Rattle.ml_ratio.specs.Floor.{floor}
use Rattle.ml_river.specs.Run.{x_at}
use Rattle.ml_river.proofs.StepLemmas.{x_of}
use Rattle.ml_river.proofs.HeightLemmas.{run_from}
use Rattle.ml_river.proofs.BoxLemmas.{le_along}
use Rattle.ml_river.proofs.river.middle_of.Goals as goal

pub returns-clause-value : goal.returns-clause-value
returns-clause-value c =
    let pw = (get_or c.args.run.now 0 c.index-run-0.result).world_x in
    let qw = (get_or c.args.run.now (length c.args.run.now - 1) c.index-run-run.result).world_x in
    let fp : FitsSigned w64 (get_or c.args.run.now 0 c.index-run-0.result).x = omega (arith, ints, pw.0, pw.1) in
    let fq : FitsSigned w64 (get_or c.args.run.now (length c.args.run.now - 1) c.index-run-run.result).x = omega (arith, ints, qw.0, qw.1) in
    let fh : FitsSigned w64 c.half.result = search rules in
    let p = x_of c.args.run.now 0 c.index-run-0.result (omega (arith, c.requires.some)) in
    let q = x_of c.args.run.now (length c.args.run.now - 1) c.index-run-run.result (omega (arith, c.requires.some)) in
    let v : c.half.result ≡ floor ((get_or c.args.run.now 0 c.index-run-0.result).x +ℤ (get_or c.args.run.now (length c.args.run.now - 1) c.index-run-run.result).x) (pos 2) =
    simp to_z-of_z at c.half.ensures.value in
    let w : c.half.result ≡ floor (x_at c.args.run.now 0 +ℤ x_at c.args.run.now (length c.args.run.now - 1)) (pos 2) =
    v ∙ (ap (λ (z : ℤ). floor (z +ℤ (get_or c.args.run.now (length c.args.run.now - 1) c.index-run-run.result).x) (pos 2)) (sym p)
    ∙ ap (λ (z : ℤ). floor (x_at c.args.run.now 0 +ℤ z) (pos 2)) (sym q)) in
    simp to_z-of_z w

pub returns-clause-within : goal.returns-clause-within
returns-clause-within c =
    let pw = (get_or c.args.run.now 0 c.index-run-0.result).world_x in
    let qw = (get_or c.args.run.now (length c.args.run.now - 1) c.index-run-run.result).world_x in
    let fp : FitsSigned w64 (get_or c.args.run.now 0 c.index-run-0.result).x = omega (arith, ints, pw.0, pw.1) in
    let fq : FitsSigned w64 (get_or c.args.run.now (length c.args.run.now - 1) c.index-run-run.result).x = omega (arith, ints, qw.0, qw.1) in
    let fh : FitsSigned w64 c.half.result = search rules in
    let p = x_of c.args.run.now 0 c.index-run-0.result (omega (arith, c.requires.some)) in
    let q = x_of c.args.run.now (length c.args.run.now - 1) c.index-run-run.result (omega (arith, c.requires.some)) in
    let up : x_at c.args.run.now 0 ≤ℤ x_at c.args.run.now (length c.args.run.now - 1) = run_from c.args.run.now (length c.args.run.now - 1) c.requires.rising (omega (arith, c.requires.some)) in
    let b : (get_or c.args.run.now 0 c.index-run-0.result).x ≤ℤ (get_or c.args.run.now (length c.args.run.now - 1) c.index-run-run.result).x →
    ((get_or c.args.run.now 0 c.index-run-0.result).x ≤ℤ c.half.result) × (c.half.result ≤ℤ (get_or c.args.run.now (length c.args.run.now - 1) c.index-run-run.result).x) =
    simp to_z-of_z at c.half.ensures.between in
    let w = b (le_along (x_at c.args.run.now 0) (x_at c.args.run.now (length c.args.run.now - 1)) (get_or c.args.run.now 0 c.index-run-0.result).x
    (get_or c.args.run.now (length c.args.run.now - 1) c.index-run-run.result).x p (sym q) up) in (
      simp to_z-of_z (le_along (get_or c.args.run.now 0 c.index-run-0.result).x c.half.result (x_at c.args.run.now 0) c.half.result (sym p) refl w.0),
      simp to_z-of_z (le_along c.half.result (get_or c.args.run.now (length c.args.run.now - 1) c.index-run-run.result).x c.half.result (x_at c.args.run.now (length c.args.run.now - 1)) refl q w.1),
    )
