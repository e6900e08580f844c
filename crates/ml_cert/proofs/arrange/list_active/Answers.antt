use Rattle.std.proofs.Common.{arith}
use Rattle.ml_cert.proofs.Arranging.{listed_none}
use Rattle.ml_cert.proofs.arrange.list_active.Goals as goal

pub loop-i-init : goal.loop-i-init
loop-i-init c = record { few = omega arith; listed = listed_none c.args.labels.now c.args.slots.now c.args.spots.now }
