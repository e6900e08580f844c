use Rattle.std.proofs.Common.{arith}
use Rattle.std.proofs.lemmas.Grind.{common_steps}
use Rattle.ml_cert.proofs.LineLemmas.{line_of_words}
use Rattle.ml_cert.proofs.slot_line.read_line.Goals as goal

pub returns-in-len3 : goal.returns-in-len3
returns-in-len3 c = grind (arith, common_steps, line_of_words)
