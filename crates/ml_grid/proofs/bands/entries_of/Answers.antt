use Rattle.std.proofs.Common.{◌∙◌, ap, sym, arith}
use Rattle.ml_grid.specs.Count.{entries_below}
use Rattle.ml_grid.proofs.Sums.{below_none, below_next, count_all}
use Rattle.ml_grid.proofs.bands.entries_of.Goals as goal

pub loop-band-init : goal.loop-band-init
loop-band-init c = record { counted = sym (below_none c.args.label.now); few = omega arith }

pub loop-band-preserved : goal.loop-band-preserved
loop-band-preserved c = record {
  counted = let n = below_next c.args.label.now c.loop-band.band in let m = c.loop-band.invariant.counted in let k = c.entries_in-count.ensures.count in omega arith;
  few = let m = c.loop-band.invariant.few in let k = c.entries_in-count.ensures.few in omega arith;
}

pub returns-clause-count : goal.returns-clause-count
returns-clause-count c =
    let e = c.loop-band.invariant.counted in
    e ∙ ap (entries_below c.args.label.now) (omega arith) ∙ count_all c.args.label.now

pub returns-clause-few : goal.returns-clause-few
returns-clause-few c = let m = c.loop-band.invariant.few in omega arith
