use Rattle.std.proofs.Common.{◌≡◌, ℕ, ◌<◌, length, get_or, Some}
use Rattle.std.specs.Prelude.{slice_get}
use Rattle.ml_http.proofs.state.places_of.Given as goal

abbrev pub invariant-loop-place : goal.invariant-loop-place
invariant-loop-place l = record {
  size : length l.places.items ≡ 32768;
  so_far : (k : ℕ) → k < l.place → slice_get l.places.items (get_or l.numbers k 0) ≡ Some k;
}
