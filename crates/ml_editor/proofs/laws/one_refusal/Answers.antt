use Rattle.ml_editor.proofs.Refusals.{one_refusal}
use Rattle.ml_editor.proofs.laws.one_refusal.Goals as goal

pub returns : goal.returns
returns c = one_refusal c.one_edit.ensures c.one_fault.ensures.feature c.feature_or_fault.ensures c.one_fault-2.ensures c.style_or_fault.ensures
