use Rattle.std.proofs.Common.{◌∙◌, ap, sym}
use Rattle.ml_cone.specs.declared.slot.Slot.{Slot}
use Rattle.ml_repair.proofs.Answered.{if_ok}
use Rattle.ml_repair.proofs.KeptBlockers.{left_none, left_some, changed_within}
use Rattle.ml_repair.proofs.kept.settle_again.Goals as goal

pub settle_among-requires-clause-within : goal.settle_among-requires-clause-within
settle_among-requires-clause-within g c = changed_within c.args.roster.now c.args.moves.now c.args.edited.at c.args.edited.comes c.args.changed.now c.args.i c.requires.is_place c.requires.known

pub settle_among-requires-in-Some-staying-clause-within : goal.settle_among-requires-in-Some-staying-clause-within
settle_among-requires-in-Some-staying-clause-within g c =
    changed_within c.args.roster.now c.args.moves.now c.args.edited.at c.args.edited.comes c.args.changed.now c.args.i c.requires.is_place c.requires.known

pub returns-in-None-clause-own : goal.returns-in-None-clause-own
returns-in-None-clause-own g c =
    let none = ap (λ (s : Slot). s.blocker) (sym c.present_slot-old.ensures.slot) ∙ c.in-None.is in
    if_ok c.settle_among.result _ _
    (λ slot left. left_none c.smaller_ends.ensures c.same_limits.ensures c.args.roster.now c.args.moves.now c.args.edited.at c.args.edited.comes c.args.i c.args.changed.now slot
    c.present_slot-old.ensures.numbered.differ c.requires.is_place c.requires.known none left)
    c.settle_among.ensures.left

pub returns-in-Some-staying-clause-own : goal.returns-in-Some-staying-clause-own
returns-in-Some-staying-clause-own g c =
    let some = ap (λ (s : Slot). s.blocker) (sym c.present_slot-old.ensures.slot) ∙ c.in-Some.is in
    if_ok c.settle_among-in-Some-staying.result _ _
    (λ slot left. left_some c.smaller_ends.ensures c.same_limits.ensures c.args.roster.now c.args.moves.now
    c.args.edited.at c.args.edited.comes c.args.i c.args.changed.now c.in-Some.number c.in-Some-staying.b slot
    c.present_slot-old.ensures.numbered.differ c.requires.is_place c.requires.known some c.in-Some-staying.ensures left)
    c.settle_among-in-Some-staying.ensures.left
