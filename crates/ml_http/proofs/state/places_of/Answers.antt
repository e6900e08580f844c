use Rattle.std.proofs.Common.{get_or, ◌∙◌}
use Rattle.std.proofs.lemmas.List.{length-set}
use Rattle.ml_http.proofs.StatePlaces.{set_place}
use Rattle.ml_http.proofs.state.places_of.Goals as goal

pub loop-place-preserved : goal.loop-place-preserved
loop-place-preserved c = record {
  size = length-set c.loop-place.places.items (get_or c.args.numbers.now c.loop-place.place 0) c.loop-place.place ∙ c.loop-place.invariant.size;
  so_far = set_place c.args.numbers.now c.loop-place.places.items c.loop-place.place c.loop-place-test.true c.requires.low c.requires.own c.loop-place.invariant.size c.loop-place.invariant.so_far;
}
