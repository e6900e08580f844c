use Rattle.ml_editor.proofs.Changing.{all_changes}
use Rattle.ml_editor.proofs.changes.changes_between.Goals as goal

pub returns : goal.returns
returns c =
    all_changes c.args.old.now.rows c.args.new.now.rows c.args.features.now c.in_ok-changes.changes.items c.by_id.result
    c.requires.old c.requires.new c.in_ok-changes.ensures c.by_id.ensures.same c.by_id.ensures.ascending
