use Rattle.std.proofs.Common.{take, refl}
use Rattle.ml_cert.proofs.Arranging.{field_of}
use Rattle.ml_cert.proofs.judge.judge_in_strips.Goals as goal

pub judge-requires-clause-field : goal.judge-requires-clause-field
judge-requires-clause-field c = field_of c.args.labels.now c.args.spots.now c.args.slots.now c.cut.new.strips
    (take c.in-Some.many c.cut.new.strips) c.in-Some.many refl c.in-Some.ensures c.requires.each
