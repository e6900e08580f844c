use Rattle.std.proofs.Common.{◌∙◌, sym, w64}
use Rattle.std.proofs.lemmas.Bool.{false≢true}
use Rattle.std.proofs.lemmas.Int.{to_z-of_z}
use Rattle.ml_tile.proofs.key.TileKey.of.Goals as goal
use Rattle.ml_tile.proofs.key.TileKey.of.Goals.{else-has_column-via-then-has_column+else-has_column-2, else-has_column-via-else-has_column}

pub returns-else-has_column : goal.returns-else-has_column
returns-else-has_column c tile = elim c.else-has_column.branch [
  | else-has_column-via-then-has_column+else-has_column-2 w ↦ false≢true (sym w.if-has_column-2.false ∙ w.has_column-then-has_column.ensures.1 (rw (to_z-of_z w64 c.args.j c.ranges.j) tile.world_y))
  | else-has_column-via-else-has_column w ↦ false≢true (sym w.if-has_column.false ∙ c.has_column.ensures.1 (rw (to_z-of_z w64 c.args.i c.ranges.i) tile.world_x))
]
