use Rattle.std.proofs.Common.{pos}
use Rattle.std.proofs.lemmas.List.{get_or_default}
use Rattle.ml_cone.specs.declared.label.BoxPx.{BoxPx}
use Rattle.ml_conflict.proofs.scales.interval.Goals as goal

pub returns-in-None-clause-scales : goal.returns-in-None-clause-scales
returns-in-None-clause-scales c d s scale =
    let empty : BoxPx = record { l = pos 0; b = pos 0; r = pos 0; t = pos 0 } in
    let h = rw (c.as_slice.ensures, c.boxes.ensures, c.as_slice-2.ensures, c.boxes-2.ensures) at (c.in-None.ensures.scales s scale) in
    rw (get_or_default c.args.a.now.boxes c.args.i d empty c.requires.i_is_box, get_or_default c.args.b.now.boxes c.args.j d empty c.requires.j_is_box) h
