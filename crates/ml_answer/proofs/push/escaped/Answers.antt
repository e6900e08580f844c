use Rattle.std.proofs.lemmas.Result.{IfOk-weaker}
use Rattle.serde_json.proofs.FreeTexts.{text_of_str}
use Rattle.ml_answer.proofs.push.escaped.Goals as goal

pub returns : goal.returns
returns c =
    IfOk-weaker c.written.result _ _
    (λ bytes sent. text_of_str c.args.value.now sent.0 bytes.items sent.1 sent.2)
    c.written.ensures
