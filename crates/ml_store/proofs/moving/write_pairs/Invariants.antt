use Rattle.std.proofs.Common.{◌≡◌, ◌+◌, ◌≤◌, drop}
use Rattle.ml_store.specs.Moved.{moved_rows, moved_pairs}
use Rattle.ml_store.specs.Rows.{HaveOwnNumbers}
use Rattle.ml_store.specs.Store.{IsIndex, IsPairIn}
use Rattle.ml_store.proofs.moving.write_pairs.Given as goal

-- what is still to be written onto the present rows gives the rows that are due
abbrev pub invariant-loop-m : goal.invariant-loop-m
invariant-loop-m l = record {
  differ : HaveOwnNumbers l.table.rows;
  paired : IsIndex IsPairIn l.table.rows l.pairs.entries;
  rows : moved_rows (drop l.m-index l.moved) l.table.rows ≡ moved_rows l.moved l.fn.table.rows;
  labels : l.table.room ≡ l.fn.table.room;
  blocks : l.fn.pairs.spare + moved_pairs (drop l.m-index l.moved) ≤ l.pairs.spare + moved_pairs l.moved;
}
