use Rattle.std.proofs.Common.{take}
use Rattle.ml_editor.specs.Editing.{rows_after}
use Rattle.ml_http.specs.TileWork.{Drops, ShowsChanges}
use Rattle.ml_http.proofs.forget.forget_shown.Given as goal

abbrev pub invariant-loop-change : goal.invariant-loop-change
invariant-loop-change l =
    Drops (ShowsChanges l.editor.engine.rows (rows_after l.ready.work l.editor.engine.rows) (take l.change-index l.change-items)) l.fn.tiles l.tiles
