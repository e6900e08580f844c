use Rattle.std.proofs.Common.{ℕ, ◌≡◌, ◌-◌, ◌<◌, ◌≤◌, Contains, length, slice_index}
use Rattle.ml_store.specs.Names.{Name, names_in, IsIdBefore}
use Rattle.ml_store.proofs.names.id_place.Given as goal

abbrev pub invariant-loop-low : goal.invariant-loop-low
invariant-loop-low l = record {
  in_order : l.low ≤ l.high;
  bound : l.high ≤ length l.ids;
  before : (k : ℕ) (name : Name) → k < l.low → Contains (names_in (l.rows)) name → slice_index l.ids k ≡ name.number → IsIdBefore name.id l.id;
  after : (k : ℕ) (name : Name) → l.high ≤ k → k < length l.ids → Contains (names_in (l.rows)) name → slice_index l.ids k ≡ name.number → ¬ (IsIdBefore name.id l.id);
}

abbrev pub decreases-loop-low : goal.decreases-loop-low
decreases-loop-low l = l.high - l.low
