use Rattle.std.proofs.Common.{◌<◌, ◌≤◌, ◌⊎◌, inl, inr, arith}
use Rattle.ml_ratio.specs.Fraction.{Fraction, value_of}
use Rattle.ml_repair.proofs.Gathering.{band_up_to, gathered_start, gathered_all, gathered_enough, met_within}
use Rattle.ml_repair.proofs.gather.gather_all.Goals as goal
use Rattle.ml_repair.proofs.gather.gather_all.Goals.{then-loop-band-test+else-band-lt28, else-loop-band-test}

pub loop-band-init : goal.loop-band-init
loop-band-init c = (
  c.band-band.result,
  rw c.min.ensures at c.band-band.ensures.band,
  rw (c.max-bound.ensures, c.new-places.ensures) (gathered_start c.args.sought.now c.band-band.result),
)

pub across-requires-clause-from : goal.across-requires-clause-from
across-requires-clause-from c =
    let f : Fraction = value_of c.loop-band.bound in
    let one = c.band.ensures.band in
    let same = band_up_to f f c.band.result c.band-in-loop-band.result (record { begins = one.below; reaches = one.from }) c.band-in-loop-band.ensures.band in
    let test = c.loop-band-test.true in
    let low = c.if-band-lt28.true in
    let least = c.min-in-loop-band.ensures in
    let upto = c.min-upto.ensures in
    omega arith

pub sift-requires : goal.sift-requires
sift-requires c = rw c.as_slice.ensures (met_within c.args.sought.now.roster.now c.args.sought.now.low.now c.loop-band.band c.in_ok-band.band c.across.new.out
    (rw c.in_ok-found.ensures at c.in_ok-band.ensures.met))

pub loop-band-preserved : goal.loop-band-preserved
loop-band-preserved c =
    let i = c.loop-band.invariant in (
      i.0,
      i.1,
      gathered_all c.args.sought.now i.0 c.loop-band.band c.in_ok-band.band c.loop-band.bound c.in_ok-bound.bound c.loop-band.places c.sift.new.out c.across.new.out i.2
          (rw c.in_ok-found.ensures at c.in_ok-band.ensures.met) (rw c.as_slice.ensures at c.in_ok-bound.ensures),
    )

pub returns-clause-enough : goal.returns-clause-enough
returns-clause-enough c =
    let i = c.loop-band.invariant in
    let stop : (c.band.result < c.loop-band.band) ⊎ (28 ≤ c.loop-band.band) =
    elim c.loop-band-test.branch [
      | then-loop-band-test+else-band-lt28 w ↦ inr w.if-band-lt28.false
      | else-loop-band-test w ↦ inl w.loop-band-test.false
    ] in
    gathered_enough c.args.sought.now i.0 c.loop-band.band c.band.result c.loop-band.bound c.loop-band.places c.ascending.result.items i.2 i.1 c.band.ensures.band stop c.ascending.ensures.same
