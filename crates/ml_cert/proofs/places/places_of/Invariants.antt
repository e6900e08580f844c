use Rattle.ml_cert.proofs.PlaceLemmas.{FindsBefore}
use Rattle.ml_cert.proofs.places.places_of.Given as goal

abbrev pub invariant-loop-i : goal.invariant-loop-i
invariant-loop-i l = FindsBefore l.labels l.places l.i
