use Rattle.ml_request.proofs.HeldLemmas.{pass_of}
use Rattle.ml_request.proofs.held.Held.pass.Goals as goal

pub returns : goal.returns
returns c = pass_of c.self.inside.buffer.items c.args.self.now c.self.inside.start c.self.inside.count c.args.count c.self.view_is c.requires
