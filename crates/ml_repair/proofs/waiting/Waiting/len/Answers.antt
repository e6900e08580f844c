use Rattle.std.proofs.Common.{◌∙◌, length, sym, ap}
use Rattle.ml_repair.proofs.Words.{length-waiting_in}
use Rattle.ml_repair.proofs.waiting.Waiting.len.Goals as goal

pub returns-clause-count : goal.returns-clause-count
returns-clause-count c = sym (length-waiting_in c.self.inside.words.items c.self.inside.many) ∙ ap length c.self.view_is
