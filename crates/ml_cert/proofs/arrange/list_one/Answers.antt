use Rattle.std.proofs.Common.{◌≡◌, get_or, arith, subst, ◌∙◌}
use Rattle.std.proofs.lemmas.List.{get_or_default}
use Rattle.ml_ratio.specs.Fraction.{value_of, IsAtMost}
use Rattle.ml_cone.specs.Slots.{no_slot}
use Rattle.ml_cone.specs.declared.label.Label.{Label}
use Rattle.ml_cone.specs.declared.slot.Slot.{Slot}
use Rattle.ml_cert.proofs.Arranging.{listed_more, listed_kept}
use Rattle.ml_cert.proofs.arrange.list_one.Goals as goal

pub returns-then-is_less-clause-listed : goal.returns-then-is_less-clause-listed
returns-then-is_less-clause-listed c = listed_more c.args.labels.now c.args.slots.now c.args.i c.args.count
    c.args.spots.now c.spot_of.result c.requires.room c.requires.listed c.spot_of.ensures.spot c.spot_of.ensures.place

pub returns-else-is_less-clause-listed : goal.returns-else-is_less-clause-listed
returns-else-is_less-clause-listed c =
    let labels = c.args.labels.now in
    let slots = c.args.slots.now in
    let i = c.args.i in
    let a : Label = c.index-labels-i.result in
    let s : Slot = c.index-slots-i.result in
    let long = c.requires.lengths in
    let at = c.requires.at in
    let slot : get_or slots i s ≡ get_or slots i no_slot = get_or_default slots i s no_slot (omega arith) in
    let idle : IsAtMost (value_of (get_or slots i s).until) (value_of a.min) = rw c.min.ensures at c.if-is_less.ensures in
    listed_kept labels slots i c.args.count c.args.spots.now c.requires.listed
    (λ d. subst (λ (b : Label). IsAtMost (value_of (get_or slots i no_slot).until) (value_of b.min))
    (c.index-labels-i.is ∙ get_or_default labels i a d at) (subst (λ (t : Slot). IsAtMost (value_of t.until) (value_of a.min)) slot idle))
