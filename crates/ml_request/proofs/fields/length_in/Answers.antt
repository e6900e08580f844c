use Rattle.std.proofs.Common.{ap, sym}
use Rattle.ml_request.specs.Heads.{length_of}
use Rattle.ml_request.proofs.Digits.{no_numeral}
use Rattle.ml_request.proofs.fields.length_in.Goals as goal

pub returns-in_default : goal.returns-in_default
returns-in_default c = sym (ap length_of (no_numeral c.args.value.now c.in_default.ensures.cases.0))
