use Rattle.ml_repair.proofs.Noting.{same_ratio}
use Rattle.ml_repair.proofs.planning.change_between.Goals as goal

pub returns-then-same_labels : goal.returns-then-same_labels
returns-then-same_labels c = (c.if-same_labels.ensures, same_ratio c.args.old.now.slot.until c.args.new.now.slot.until c.if-not-differs.ensures)
