use Rattle.std.specs.Option.{option_copied}
use Rattle.ml_http.proofs.Dropping.{forgotten}
use Rattle.ml_http.proofs.forget.forget_before.Goals as goal

pub returns : goal.returns
returns c =
    forgotten c.one_label_an_id.ensures c.args.editor.now.engine.rows c.label_with.ensures.holds.settled c.args.change.now.id (option_copied c.label_with.result) c.args.change.now.before _ _
    c.requires c.label_with.ensures.label c.forget_label.ensures
