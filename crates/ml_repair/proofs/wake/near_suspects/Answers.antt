use Rattle.ml_repair.proofs.Waking.{meeting_none, meeting_more, meeting_all}
use Rattle.ml_repair.proofs.wake.near_suspects.Goals as goal

pub loop-band-init : goal.loop-band-init
loop-band-init c = (
  c.band-band.result,
  rw c.min.ensures at c.band-band.ensures.band,
  rw c.in_ok-places.ensures (meeting_none c.args.roster.now c.args.label.now c.band-band.result),
)

pub loop-band-preserved : goal.loop-band-preserved
loop-band-preserved c =
    let i = c.loop-band.invariant in
    (i.0, i.1, meeting_more c.args.roster.now c.args.label.now i.0 c.loop-band.band c.in_ok-band.band c.loop-band.places c.across.new.out i.2 c.in_ok-band.ensures.met)

pub returns : goal.returns
returns c =
    let i = c.loop-band.invariant in
    meeting_all c.rivals_overlap.ensures c.args.roster.now c.args.label.now c.loop-band.band c.last_band-last.result i.0 c.loop-band.places i.2 i.1 c.last_band-last.ensures c.loop-band-test.false
