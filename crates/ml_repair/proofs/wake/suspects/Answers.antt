use Rattle.std.proofs.Common.{refl}
use Rattle.ml_repair.proofs.Waking.{suspects_none, suspects_more, suspects_all}
use Rattle.ml_repair.proofs.wake.suspects.Goals as goal

pub loop-band-init : goal.loop-band-init
loop-band-init c = (
  c.max-band.result,
  c.first_end.result,
  c.band.result,
  rw (c.max-band.ensures, c.min.ensures) refl,
  c.first_end.ensures.ends,
  rw c.min-2.ensures at c.band.ensures.band,
  rw c.new-places.ensures (suspects_none c.args.roster.now c.args.label.now c.max-band.result),
)

pub loop-band-preserved : goal.loop-band-preserved
loop-band-preserved c =
    let i = c.loop-band.invariant in
    (i.0, i.1, i.2, i.3, i.4, i.5, suspects_more c.args.roster.now c.args.label.now i.0 c.loop-band.band c.loop-band.places c.near.new.out i.6 c.in_ok-near.ensures)

pub returns : goal.returns
returns c =
    let i = c.loop-band.invariant in
    suspects_all c.rivals_share.ensures c.args.roster.now c.args.label.now i.0 c.loop-band.band c.last_band-last.result
    i.1 i.2 c.loop-band.places i.6 i.5 c.last_band-last.ensures i.4 i.3 c.loop-band-test.false
