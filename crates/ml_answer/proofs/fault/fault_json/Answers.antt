use Rattle.std.proofs.Common.{◌∙◌, ap}
use Rattle.serde_json.specs.Written.{has_float}
use Rattle.ml_answer.proofs.NoFloats.{fault_no_float}
use Rattle.ml_answer.proofs.fault.fault_json.Goals as goal

pub compact-requires : goal.compact-requires
compact-requires c = ap has_float c.in_ok-value.ensures ∙ fault_no_float c.args.fault.now
