use Rattle.std.specs.List.Sorted.{IsStrictlySortedBy}
use Rattle.ml_style.proofs.style_table.fonts_of.Goals as goal

pub returns-in_default-clause-ascending : goal.returns-in_default-clause-ascending
unfolding IsStrictlySortedBy
returns-in_default-clause-ascending c = rw c.new.ensures tt

pub returns-in-None-clause-ascending : goal.returns-in-None-clause-ascending
unfolding IsStrictlySortedBy
returns-in-None-clause-ascending c = rw c.new-in-None.ensures tt
