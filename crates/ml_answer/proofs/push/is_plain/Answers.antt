use Rattle.std.proofs.Common.{◌≡◌, subst}
use Rattle.std.specs.Bool.{OnTrue}
use Rattle.json.proofs.Printed.Plain.{escape_on_plain}
use Rattle.json.specs.Print.{escape}
use Rattle.ml_answer.proofs.push.is_plain.Goals as goal

pub returns : goal.returns
returns c =
    subst (λ bytes. OnTrue c.are_plain.result (escape bytes ≡ bytes)) c.as_bytes.ensures.value
    (escape_on_plain c.are_plain.result c.as_bytes.result.now c.are_plain.ensures)
