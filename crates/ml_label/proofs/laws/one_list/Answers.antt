use Rattle.ml_label.proofs.lemmas.SameLabels.{same_labels}
use Rattle.ml_label.proofs.laws.one_list.Goals as goal

pub returns : goal.returns
returns c style features others labels rest same first second = same_labels c.one_label.ensures style features others labels rest first second same
