use Rattle.std.proofs.Common.{ap, ◌∙◌, sym}
use Rattle.ml_geojson.specs.Shape.{places_of}
use Rattle.ml_geojson.proofs.RingLemmas.{closed_stays, open_closes}
use Rattle.ml_geojson.proofs.positions.close.Goals as goal

pub returns-then-eq-clause-places : goal.returns-then-eq-clause-places
returns-then-eq-clause-places c = sym (closed_stays c.args.ring.now c.in-Some-Some.first.now c.in-Some-Some.last.now (rw c.as_slice-places.ensures at
    (sym c.in-Some-Some.ensures.value)) (rw c.as_slice-places.ensures at (sym c.in-Some-Some.ensures'.value)) (sym c.eq.ensures ∙ c.if-eq.true))

pub returns-clause-places : goal.returns-clause-places
returns-clause-places c = ap places_of c.in_ok-push.ensures.ok ∙ sym (open_closes c.args.ring.now c.in-Some-Some.first.now c.in-Some-Some.last.now
    (rw c.as_slice-places.ensures at (sym c.in-Some-Some.ensures.value)) (rw c.as_slice-places.ensures at (sym c.in-Some-Some.ensures'.value)) (sym c.eq.ensures ∙ c.if-eq.false))
