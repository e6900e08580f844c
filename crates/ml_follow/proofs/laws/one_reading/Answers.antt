use Rattle.ml_follow.proofs.OneReading.{one_reading, no_fault}
use Rattle.ml_follow.proofs.laws.one_reading.Goals as goal

pub returns : goal.returns
returns c = record { one = one_reading c.one_spelling.ensures c.one_list.ensures; faultless = no_fault c.one_spelling.ensures c.one_list.ensures }
