use Rattle.std.proofs.Common.{◌≢◌, take}
use Rattle.std.specs.Prelude.{AllPairs}
use Rattle.ml_store.specs.Boxes.{unboxed}
use Rattle.ml_store.specs.Store.{IsIndex, IsPairIn}
use Rattle.ml_store.proofs.bulk.list_pairs.Given as goal

abbrev pub invariant-loop-row : goal.invariant-loop-row
invariant-loop-row l = record {
  apart : AllPairs (λ one other. one ≢ other) l.pairs.items;
  paired : IsIndex IsPairIn (take l.row-index (unboxed l.rows)) l.pairs.items;
}
