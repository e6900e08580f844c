use Rattle.std.proofs.Common.{◌∙◌, ap}
use Rattle.std.specs.Option.{option_copied}
use Rattle.serde_json.specs.Written.{has_float}
use Rattle.ml_answer.proofs.NoFloats.{slot_no_float}
use Rattle.ml_answer.proofs.slot.slot_json.Goals as goal

pub compact-requires : goal.compact-requires
compact-requires c = ap has_float c.in_ok-value.ensures ∙ slot_no_float c.args.label.now c.args.until (option_copied c.args.blocker)
