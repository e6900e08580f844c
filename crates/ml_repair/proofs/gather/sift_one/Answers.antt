use Rattle.std.proofs.Common.{sym, ap, ◌∙◌}
use Rattle.std.proofs.lemmas.Bool.{false≢true}
use Rattle.ml_ratio.specs.Fraction.{value_of}
use Rattle.ml_cone.specs.declared.label.Label.{Label}
use Rattle.ml_cone.specs.declared.slot.Slot.{Slot}
use Rattle.ml_repair.proofs.Gathering.{sifted_apart, sifted_idle, sifted_limit}
use Rattle.ml_repair.proofs.gather.sift_one.Goals as goal

pub returns-else-stands : goal.returns-else-stands
returns-else-stands c = sifted_apart c.args.sought.now c.args.place c.args.bound c.args.out.now (λ s. let e = c.stands.ensures.1 s in absurd (let no = c.if-stands.false in false≢true (sym no ∙ e)))

pub returns-then-is_far : goal.returns-then-is_far
returns-then-is_far c =
    sifted_idle c.args.sought.now c.args.place c.args.bound c.args.out.now (λ d. rw (c.row-row.ensures.label d) (c.is_far.ensures c.if-is_far.true _))

pub returns-in_ok-push-in-Some : goal.returns-in_ok-push-in-Some
returns-in_ok-push-in-Some c =
    let r = c.row-row.result.now in
    let until = ap (λ (s : Slot). value_of s.until) c.present_slot.ensures.slot in
    sifted_limit c.args.sought.now c.args.place c.args.bound c.in-Some.limit c.args.out.now c.push.new.self (c.stands.ensures.0 c.if-stands.true)
    (λ (d : Label). rw (c.row-row.ensures.label d, ← until) c.in-Some.ensures.some) c.in-Some.ensures.below.1 c.in_ok-push-in-Some.ensures.ok

pub returns-in-None : goal.returns-in-None
returns-in-None c =
    let r = c.row-row.result.now in
    let until = ap (λ (s : Slot). value_of s.until) c.present_slot.ensures.slot in
    sifted_idle c.args.sought.now c.args.place c.args.bound c.args.out.now
    (λ (d : Label). rw (c.row-row.ensures.label d, ← until) c.in-None.ensures.none)
