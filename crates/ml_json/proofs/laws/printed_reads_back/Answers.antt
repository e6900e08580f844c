use Rattle.ml_json.proofs.CanonicalText.{printed_text}
use Rattle.ml_json.proofs.laws.printed_reads_back.Goals as goal

pub returns : goal.returns
returns c = printed_text
