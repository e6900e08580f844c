use Rattle.std.proofs.Common.{◌∙◌, sym}
use Rattle.std.specs.Str.{chars}
use Rattle.ml_text.specs.Label.{shown}
use Rattle.ml_label.proofs.Spaces.{all_spaces}
use Rattle.ml_label.proofs.name.is_shown_blank.Goals as goal

pub returns : goal.returns
returns c = c.has_only_spaces.ensures ∙ sym (all_spaces (chars c.args.name.now) shown)
