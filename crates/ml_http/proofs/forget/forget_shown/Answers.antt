use Rattle.std.proofs.Common.{subst, sym, ◌∙◌}
use Rattle.ml_editor.specs.Editing.{rows_after}
use Rattle.ml_http.specs.TileWork.{Drops, ShowsChange, ShowsChanges}
use Rattle.ml_http.proofs.Dropping.{drops_of_none, drops_no_change, drops_more}
use Rattle.ml_http.proofs.forget.forget_shown.Goals as goal

pub returns-then-len-eq0 : goal.returns-then-len-eq0
returns-then-len-eq0 c =
    drops_of_none (ShowsChanges c.args.editor.now.engine.rows (rows_after c.args.ready.now.work c.args.editor.now.engine.rows) c.args.ready.now.changes)
    c.args.tiles.now (sym c.len.ensures.count ∙ c.if-len-eq0.true)

pub loop-change-init : goal.loop-change-init
loop-change-init c = drops_no_change c.args.editor.now.engine.rows (rows_after c.args.ready.now.work c.args.editor.now.engine.rows) c.as_slice-change-items.result.now c.args.tiles.now

pub loop-change-preserved : goal.loop-change-preserved
loop-change-preserved c =
    let rows = c.args.editor.now.engine.rows in
    let after = rows_after c.args.ready.now.work rows in
    drops_more rows after c.as_slice-change-items.result.now c.loop-change.change-index c.change-item.result _ _ _ c.loop-change-test.true c.loop-change.invariant
    (subst (λ x. Drops (ShowsChange rows after x) c.loop-change.tiles c.forget_change.new.tiles) c.change-item.is c.forget_change.ensures)
