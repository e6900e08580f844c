use Rattle.std.specs.List.Sorted.{IsStrictlySortedBy}
use Rattle.ml_style.proofs.font_table.advances_in.Goals as goal

pub returns-in_default-clause-ascending : goal.returns-in_default-clause-ascending
unfolding IsStrictlySortedBy
returns-in_default-clause-ascending c = rw c.new.ensures tt
