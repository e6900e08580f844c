use Rattle.ml_pass.specs.Row.{ReadsBox}
use Rattle.ml_pass.proofs.RowLemmas.{box_unique, zip_unique}
use Rattle.ml_pass.proofs.laws.one_list.Goals as goal

pub returns : goal.returns
returns c = zip_unique ReadsBox box_unique
