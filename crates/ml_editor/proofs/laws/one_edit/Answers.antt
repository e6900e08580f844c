use Rattle.ml_editor.proofs.Refusals.{one_made}
use Rattle.ml_editor.proofs.laws.one_edit.Goals as goal

pub returns : goal.returns
returns c = one_made c.one_feature.ensures c.one_style.ensures
