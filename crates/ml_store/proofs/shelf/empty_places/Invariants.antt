use Rattle.std.proofs.Common.{◌≡◌, length, All, None}
use Rattle.ml_store.proofs.shelf.empty_places.Given as goal

abbrev pub invariant-loop : goal.invariant-loop
invariant-loop l = record {
  many : length l.places.items ≡ l.counter;
  empty : All (λ place. place ≡ None) l.places.items;
}
