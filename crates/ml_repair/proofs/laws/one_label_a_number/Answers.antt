use Rattle.ml_repair.proofs.OneRow.{one_number}
use Rattle.ml_repair.proofs.laws.one_label_a_number.Goals as goal

pub returns : goal.returns
returns c rows one other differ there here same = one_number rows one other there here differ same
