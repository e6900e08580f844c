use Rattle.std.proofs.Common.{refl, arith}
use Rattle.ml_cert.specs.declared.strip.Strip.{Strip}
use Rattle.ml_cert.proofs.Arranging.{cut_none, cut_more, strip_of}
use Rattle.ml_cert.proofs.arrange.cut.Goals as goal

pub loop-from-init : goal.loop-from-init
loop-from-init c = record { within = omega arith; cut = cut_none c.args.labels.now c.args.spots.now c.args.strips.now }

pub loop-from-preserved : goal.loop-from-preserved
loop-from-preserved c =
    let labels = c.args.labels.now in
    let spots = c.args.spots.now in
    let strip : Strip = record { from = c.loop-from.from; to = c.end_of-to.result; area = c.area_of.result } in
    let after = c.end_of-to.ensures.after in
    let within = c.end_of-to.ensures.within in
    let few = c.loop-from.invariant.cut.few in
    record {
      within = within;
      cut = cut_more labels spots c.loop-from.strips c.loop-from.many c.loop-from.from strip (omega arith) refl
          (strip_of labels spots strip (omega arith) within c.requires c.end_of-to.ensures.rising c.area_of.ensures) c.loop-from.invariant.cut;
    }
