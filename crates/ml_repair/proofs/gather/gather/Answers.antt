use Rattle.std.proofs.Common.{◌+◌, ◌<◌, ◌≤◌, ◌⊎◌, inl, inr, sym, ◌∙◌}
use Rattle.std.proofs.lemmas.Bool.{false≢true}
use Rattle.ml_repair.specs.Repair.{IsClear}
use Rattle.ml_repair.proofs.Gathering.{gathered_new, gathered_more, gathered_clear, gathered_enough}
use Rattle.ml_repair.proofs.gather.gather.Goals as goal
use Rattle.ml_repair.proofs.gather.gather.Goals.{then-apart, else-apart, then-loop-band-test+else-band-lt28, else-loop-band-test}

pub loop-band-init : goal.loop-band-init
loop-band-init c = (
  c.band-band.result,
  rw c.min.ensures at c.band-band.ensures.band,
  gathered_new c.args.sought.now c.band-band.result
      c.sift_moved.new.out c.in_ok-bound.bound (rw (c.max.ensures, c.new-places.ensures) at c.in_ok-bound.ensures),
)

pub sift-requires : goal.sift-requires
sift-requires c = rw c.as_slice-found.ensures c.in_ok-found.ensures.within

pub loop-band-preserved : goal.loop-band-preserved
loop-band-preserved c =
    let i = c.loop-band.invariant in (
      i.0,
      i.1,
      gathered_more c.args.sought.now i.0 c.loop-band.band c.loop-band.bound c.in_ok-bound-2.bound c.loop-band.places c.sift.new.out
          c.in_ok-found.found i.2 c.in_ok-found.ensures (rw c.as_slice-found.ensures at c.in_ok-bound-2.ensures),
    )

pub loop-band-preserved-then-apart-2 : goal.loop-band-preserved-then-apart-2
loop-band-preserved-then-apart-2 c =
    let i = c.loop-band.invariant in
    let clear : IsClear c.args.sought.now.roster.now c.args.sought.now.moves.now c.args.sought.now.low.now c.args.sought.now.place c.loop-band.band (c.loop-band.band + 3) =
    elim c.if-apart.branch [
      | then-apart w ↦ w.is_clear-apart.ensures (sym w.apart-is ∙ c.if-apart-2.true)
      | else-apart w ↦ absurd (false≢true (sym w.if-apart.false ∙ sym w.apart-is ∙ c.if-apart-2.true))
    ] in
    (i.0, i.1, gathered_clear c.args.sought.now i.0 c.loop-band.band c.loop-band.bound c.loop-band.places i.2 clear)

pub returns-clause-enough : goal.returns-clause-enough
returns-clause-enough c =
    let i = c.loop-band.invariant in
    let stop : (c.band.result < c.loop-band.band) ⊎ (28 ≤ c.loop-band.band) =
    elim c.loop-band-test.branch [
      | then-loop-band-test+else-band-lt28 w ↦ inr w.if-band-lt28.false
      | else-loop-band-test w ↦ inl w.loop-band-test.false
    ] in
    gathered_enough c.args.sought.now i.0 c.loop-band.band c.band.result c.loop-band.bound c.loop-band.places c.ascending.result.items i.2.bands i.1 c.band.ensures.band stop c.ascending.ensures.same
