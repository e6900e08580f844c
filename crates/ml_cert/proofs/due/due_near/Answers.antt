use Rattle.std.proofs.lemmas.Option.{IfSome_then}
use Rattle.ml_cone.specs.Slots.{ends}
use Rattle.ml_cert.proofs.Nearby.{due_of_all}
use Rattle.ml_cert.proofs.due.due_near.Goals as goal

pub returns : goal.returns
returns c = IfSome_then c.due.result c.due.ensures (λ due among. due_of_all c.args.labels.now (ends c.args.slots.now) c.args.i due among)
