use Rattle.std.proofs.Common.{rules}
use Rattle.std.proofs.lemmas.Str.{chars_from_encodes}
use Rattle.ml_text.proofs.Labels.{label_short}
use Rattle.ml_text.proofs.label.label_text.Goals as goal

pub returns-clause-value : goal.returns-clause-value
returns-clause-value c = search (rules, chars_from_encodes)

pub returns-clause-short : goal.returns-clause-short
returns-clause-short c = rw (returns-clause-value c) (label_short c.args.raw.now c.as_str.ensures.utf8)
