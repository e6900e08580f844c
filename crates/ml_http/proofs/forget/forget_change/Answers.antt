use Rattle.ml_editor.specs.Editing.{rows_after}
use Rattle.ml_http.specs.TileWork.{ShowsId}
use Rattle.ml_http.proofs.Dropping.{drops_both}
use Rattle.ml_http.proofs.forget.forget_change.Goals as goal

pub forget_before-requires : goal.forget_before-requires
forget_before-requires c = c.changes_tell.ensures.before c.args.editor.now.engine.rows (rows_after c.args.ready.now.work c.args.editor.now.engine.rows) c.args.change.now c.requires.change

pub forget_after-requires-clause-told : goal.forget_after-requires-clause-told
forget_after-requires-clause-told c = c.changes_tell.ensures.after c.args.editor.now.engine.rows (rows_after c.args.ready.now.work c.args.editor.now.engine.rows) c.args.change.now c.requires.change

pub returns : goal.returns
returns c =
    drops_both (ShowsId c.args.editor.now.engine.rows c.args.change.now.id) (ShowsId (rows_after c.args.ready.now.work c.args.editor.now.engine.rows) c.args.change.now.id)
    _ _ _ c.forget_before.ensures c.forget_after.ensures
