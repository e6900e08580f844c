use Rattle.std.proofs.Common.{◌≡◌, ◌⊎◌, inl, inr, true}
use Rattle.std.specs.Prelude.{is_some}
use Rattle.ml_ratio.specs.Fraction.{value_of, IsAtMost}
use Rattle.ml_cert.proofs.Judging.{judged_of, verdict_uncovered, sound_here, verdict_bad_blocker}
use Rattle.ml_cert.proofs.judge.judge_slot.Goals as goal
use Rattle.ml_cert.proofs.judge.judge_slot.Goals.{else-is_none-via-then-is_none+else-is_less, else-is_none-via-else-is_none}

pub returns-then-is_less : goal.returns-then-is_less
returns-then-is_less c =
    let judged = judged_of c.args.labels.now c.args.slots.now c.args.i c.index-labels-i.result c.index-slots-i.result c.in-Ok.due
    c.requires.at c.requires.lengths c.requires.before c.index-labels-i.is c.index-slots-i.is c.if-not-is_end.ensures c.in-Ok.ensures in
    verdict_uncovered judged c.if-is_none.ensures (rw (c.max.ensures) at c.if-is_less.ensures)

pub returns-then-is_place : goal.returns-then-is_place
returns-then-is_place c =
    let judged = judged_of c.args.labels.now c.args.slots.now c.args.i c.index-labels-i.result c.index-slots-i.result c.in-Ok.due
    c.requires.at c.requires.lengths c.requires.before c.index-labels-i.is c.index-slots-i.is c.if-not-is_end.ensures c.in-Ok.ensures in
    let either : (is_some c.in-Ok.due ≡ true) ⊎ IsAtMost (value_of c.index-labels-i.result.max) (value_of c.index-slots-i.result.until) =
    elim c.else-is_none.branch [ else-is_none-via-then-is_none+else-is_less w ↦ inr (rw (w.max.ensures) at w.if-is_less.ensures) | else-is_none-via-else-is_none w ↦ inl w.if-is_none.ensures ] in
    sound_here judged either c.if-is_place.ensures

pub returns-else-is_place : goal.returns-else-is_place
returns-else-is_place c =
    let judged = judged_of c.args.labels.now c.args.slots.now c.args.i c.index-labels-i.result c.index-slots-i.result c.in-Ok.due
    c.requires.at c.requires.lengths c.requires.before c.index-labels-i.is c.index-slots-i.is c.if-not-is_end.ensures c.in-Ok.ensures in
    let either : (is_some c.in-Ok.due ≡ true) ⊎ IsAtMost (value_of c.index-labels-i.result.max) (value_of c.index-slots-i.result.until) =
    elim c.else-is_none.branch [ else-is_none-via-then-is_none+else-is_less w ↦ inr (rw (w.max.ensures) at w.if-is_less.ensures) | else-is_none-via-else-is_none w ↦ inl w.if-is_none.ensures ] in
    verdict_bad_blocker judged either c.if-is_place.ensures
