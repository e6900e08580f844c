use Rattle.std.proofs.Common.{rules, ◌≡◌, ◌+◌, ◌-◌, ℤ, ◌<ℤ◌, ◌≤ℤ◌, true, false, sym, subst, arith, w64, FitsSigned}
use Rattle.std.specs.Prelude.{int_le}
use Rattle.std.proofs.lemmas.Int.{ints, to_z-of_z}
use Rattle.ml_ratio.specs.Floor.{height_on}
use Rattle.ml_river.specs.Height.{IsHeight}
use Rattle.ml_river.proofs.StepLemmas.{x_read, y_read}
use Rattle.ml_river.proofs.HeightLemmas.{IsPast, past_after, edge_rises, height_found, past_more}
use Rattle.ml_river.proofs.height.height_on_run.Goals as goal

pub height_at-requires-clause-after : goal.height_at-requires-clause-after
height_at-requires-clause-after c =
    let lx : FitsSigned w64 c.index-run-k-then-x-right.result.x = search rules in
    let l = x_read c.args.run.now (c.loop-k.k - 1) c.index-run-k-then-x-right.result (omega arith) c.index-run-k-then-x-right.is in
    let fx : FitsSigned w64 c.args.x = c.ranges.x in
    let past = subst (λ (z : ℤ). IsPast c.args.run.now z c.loop-k.k) (to_z-of_z w64 c.args.x fx) c.loop-k.invariant in
    let h = past_after c.args.run.now c.args.x c.loop-k.k c.requires.after past in
    simp to_z-of_z (rw (← l) h)

pub height_at-requires-clause-apart : goal.height_at-requires-clause-apart
height_at-requires-clause-apart c =
    let lx : FitsSigned w64 c.index-run-k-then-x-right.result.x = search rules in
    let rx : FitsSigned w64 c.index-run-k.result.x = search rules in
    let l = x_read c.args.run.now (c.loop-k.k - 1) c.index-run-k-then-x-right.result (omega arith) c.index-run-k-then-x-right.is in
    let r = x_read c.args.run.now c.loop-k.k c.index-run-k.result c.loop-k-test.true c.index-run-k.is in
    let h = edge_rises c.args.run.now c.loop-k.k c.requires.rising (omega arith) c.loop-k-test.true in
    simp to_z-of_z (rw (← l, ← r) h)

pub returns-then-x-right-clause-height : goal.returns-then-x-right-clause-height
returns-then-x-right-clause-height c =
    let lx : FitsSigned w64 c.index-run-k-then-x-right.result.x = search rules in
    let ly : FitsSigned w64 c.index-run-k-then-x-right.result.y = search rules in
    let rx : FitsSigned w64 c.index-run-k.result.x = search rules in
    let ry : FitsSigned w64 c.index-run-k.result.y = search rules in
    let fx : FitsSigned w64 c.args.x = c.ranges.x in
    let fh : FitsSigned w64 c.height_at.result = search rules in
    let l = x_read c.args.run.now (c.loop-k.k - 1) c.index-run-k-then-x-right.result (omega arith) c.index-run-k-then-x-right.is in
    let m = y_read c.args.run.now (c.loop-k.k - 1) c.index-run-k-then-x-right.result (omega arith) c.index-run-k-then-x-right.is in
    let r = x_read c.args.run.now c.loop-k.k c.index-run-k.result c.loop-k-test.true c.index-run-k.is in
    let s = y_read c.args.run.now c.loop-k.k c.index-run-k.result c.loop-k-test.true c.index-run-k.is in
    let past = subst (λ (z : ℤ). IsPast c.args.run.now z c.loop-k.k) (to_z-of_z w64 c.args.x fx) c.loop-k.invariant in
    let t : int_le c.args.x c.index-run-k.result.x ≡ true = simp to_z-of_z at c.if-x-right.true in
    let t' : c.args.x ≤ℤ c.index-run-k.result.x = grind (arith, ints) in
    let v : c.height_at.result ≡ height_on c.index-run-k-then-x-right.result.x c.index-run-k-then-x-right.result.y c.index-run-k.result.x c.index-run-k.result.y c.args.x =
    simp to_z-of_z at c.height_at.ensures.value in
    let done : IsHeight c.args.run.now c.args.x c.height_at.result =
    height_found c.args.run.now c.args.x c.height_at.result c.loop-k.k (omega arith) c.loop-k-test.true c.requires.after past (rw r t') (rw (l, m, r, s) v) in
    simp to_z-of_z done

pub loop-k-preserved : goal.loop-k-preserved
loop-k-preserved c =
    let rx : FitsSigned w64 c.index-run-k.result.x = search rules in
    let fx : FitsSigned w64 c.args.x = c.ranges.x in
    let r = x_read c.args.run.now c.loop-k.k c.index-run-k.result c.loop-k-test.true c.index-run-k.is in
    let t : int_le c.args.x c.index-run-k.result.x ≡ false = simp to_z-of_z at c.if-x-right.false in
    let t' : c.index-run-k.result.x <ℤ c.args.x = grind (arith, ints) in
    subst (λ (z : ℤ). IsPast c.args.run.now z (c.loop-k.k + 1)) (sym (to_z-of_z w64 c.args.x fx)) (past_more c.args.run.now c.args.x c.loop-k.k (rw r t'))
