use Rattle.std.proofs.Common.{refl, rules, ◌≡◌, ◌-◌, length, get_or, ◌<ℤ◌, ◌≤ℤ◌, true, false, inl, inr, sym, arith, w64, FitsSigned}
use Rattle.std.specs.Prelude.{int_lt}
use Rattle.std.proofs.lemmas.Int.{ints, to_z-of_z}
use mir.Syntax.{w128}
use Rattle.ml_river.specs.Run.{x_at}
use Rattle.ml_river.specs.Chain.{middle}
use Rattle.ml_river.proofs.StepLemmas.{x_of}
use Rattle.ml_river.proofs.BoxLemmas.{lt_along, le_along}
use Rattle.ml_river.proofs.chain.middle_in.Goals as goal

pub returns-then-x-first : goal.returns-then-x-first
returns-then-x-first c =
    let fx : FitsSigned w64 c.args.x = c.ranges.x in
    let fl : FitsSigned w64 c.args.l = c.ranges.l in
    let fr : FitsSigned w64 c.args.r = c.ranges.r in
    let fm : FitsSigned w128 c.middle-x.result = search rules in
    let pw = (get_or c.args.run.now 0 c.index-run-0.result).world_x in
    let qw = (get_or c.args.run.now (length c.args.run.now - 1) c.index-run-run.result).world_x in
    let fp : FitsSigned w64 (get_or c.args.run.now 0 c.index-run-0.result).x = omega (arith, ints, pw.0, pw.1) in
    let fq : FitsSigned w64 (get_or c.args.run.now (length c.args.run.now - 1) c.index-run-run.result).x = omega (arith, ints, qw.0, qw.1) in
    let fp' : FitsSigned w128 (get_or c.args.run.now 0 c.index-run-0.result).x = omega (arith, ints) in
    let fq' : FitsSigned w128 (get_or c.args.run.now (length c.args.run.now - 1) c.index-run-run.result).x = omega (arith, ints) in
    let m : c.middle-x.result ≡ middle c.args.class c.args.x c.args.l c.args.r = simp to_z-of_z at c.middle-x.ensures in
    let p = x_of c.args.run.now 0 c.index-run-0.result c.requires.some in
    let q = x_of c.args.run.now (length c.args.run.now - 1) c.index-run-run.result (omega (arith, c.requires.some)) in
    let t : int_lt c.middle-x.result (get_or c.args.run.now 0 c.index-run-0.result).x ≡ true = simp to_z-of_z at c.if-x-first.true in
    let less : c.middle-x.result <ℤ (get_or c.args.run.now 0 c.index-run-0.result).x = grind (arith, ints) in
    inl (lt_along c.middle-x.result (get_or c.args.run.now 0 c.index-run-0.result).x (middle c.args.class c.args.x c.args.l c.args.r) (x_at c.args.run.now 0) m p less)

pub returns-then-last-x : goal.returns-then-last-x
returns-then-last-x c =
    let fx : FitsSigned w64 c.args.x = c.ranges.x in
    let fl : FitsSigned w64 c.args.l = c.ranges.l in
    let fr : FitsSigned w64 c.args.r = c.ranges.r in
    let fm : FitsSigned w128 c.middle-x.result = search rules in
    let pw = (get_or c.args.run.now 0 c.index-run-0.result).world_x in
    let qw = (get_or c.args.run.now (length c.args.run.now - 1) c.index-run-run.result).world_x in
    let fp : FitsSigned w64 (get_or c.args.run.now 0 c.index-run-0.result).x = omega (arith, ints, pw.0, pw.1) in
    let fq : FitsSigned w64 (get_or c.args.run.now (length c.args.run.now - 1) c.index-run-run.result).x = omega (arith, ints, qw.0, qw.1) in
    let fp' : FitsSigned w128 (get_or c.args.run.now 0 c.index-run-0.result).x = omega (arith, ints) in
    let fq' : FitsSigned w128 (get_or c.args.run.now (length c.args.run.now - 1) c.index-run-run.result).x = omega (arith, ints) in
    let m : c.middle-x.result ≡ middle c.args.class c.args.x c.args.l c.args.r = simp to_z-of_z at c.middle-x.ensures in
    let p = x_of c.args.run.now 0 c.index-run-0.result c.requires.some in
    let q = x_of c.args.run.now (length c.args.run.now - 1) c.index-run-run.result (omega (arith, c.requires.some)) in
    let t : int_lt (get_or c.args.run.now (length c.args.run.now - 1) c.index-run-run.result).x c.middle-x.result ≡ true = simp to_z-of_z at c.if-last-x.true in
    let less : (get_or c.args.run.now (length c.args.run.now - 1) c.index-run-run.result).x <ℤ c.middle-x.result = grind (arith, ints) in
    inr (lt_along (get_or c.args.run.now (length c.args.run.now - 1) c.index-run-run.result).x c.middle-x.result
    (x_at c.args.run.now (length c.args.run.now - 1)) (middle c.args.class c.args.x c.args.l c.args.r) (sym q) (sym m) less)

pub returns-else-last-x : goal.returns-else-last-x
returns-else-last-x c =
    let fx : FitsSigned w64 c.args.x = c.ranges.x in
    let fl : FitsSigned w64 c.args.l = c.ranges.l in
    let fr : FitsSigned w64 c.args.r = c.ranges.r in
    let fm : FitsSigned w128 c.middle-x.result = search rules in
    let pw = (get_or c.args.run.now 0 c.index-run-0.result).world_x in
    let qw = (get_or c.args.run.now (length c.args.run.now - 1) c.index-run-run.result).world_x in
    let fp : FitsSigned w64 (get_or c.args.run.now 0 c.index-run-0.result).x = omega (arith, ints, pw.0, pw.1) in
    let fq : FitsSigned w64 (get_or c.args.run.now (length c.args.run.now - 1) c.index-run-run.result).x = omega (arith, ints, qw.0, qw.1) in
    let fp' : FitsSigned w128 (get_or c.args.run.now 0 c.index-run-0.result).x = omega (arith, ints) in
    let fq' : FitsSigned w128 (get_or c.args.run.now (length c.args.run.now - 1) c.index-run-run.result).x = omega (arith, ints) in
    let m : c.middle-x.result ≡ middle c.args.class c.args.x c.args.l c.args.r = simp to_z-of_z at c.middle-x.ensures in
    let p = x_of c.args.run.now 0 c.index-run-0.result c.requires.some in
    let q = x_of c.args.run.now (length c.args.run.now - 1) c.index-run-run.result (omega (arith, c.requires.some)) in
    let t : int_lt c.middle-x.result (get_or c.args.run.now 0 c.index-run-0.result).x ≡ false = simp to_z-of_z at c.if-x-first.false in
    let u : int_lt (get_or c.args.run.now (length c.args.run.now - 1) c.index-run-run.result).x c.middle-x.result ≡ false = simp to_z-of_z at c.if-last-x.false in
    let low : (get_or c.args.run.now 0 c.index-run-0.result).x ≤ℤ c.middle-x.result = grind (arith, ints) in
    let high : c.middle-x.result ≤ℤ (get_or c.args.run.now (length c.args.run.now - 1) c.index-run-run.result).x = grind (arith, ints) in
    let fm' : FitsSigned w64 c.middle-x.result = omega (arith, ints, pw.0, pw.1, qw.0, qw.1) in
    record {
      middle_is = simp to_z-of_z m;
      within = (
        simp to_z-of_z (le_along (get_or c.args.run.now 0 c.index-run-0.result).x c.middle-x.result (x_at c.args.run.now 0) c.middle-x.result (sym p) refl low),
        simp to_z-of_z (le_along c.middle-x.result (get_or c.args.run.now (length c.args.run.now - 1) c.index-run-run.result).x c.middle-x.result
            (x_at c.args.run.now (length c.args.run.now - 1)) refl q high),
      );
    }
