use Rattle.std.proofs.Common.{arith, below_more, ℕ, ◌<◌, length}
use Rattle.ml_cone.specs.Sound.{IsSound}
use Rattle.ml_cert.specs.declared.verdict.Verdict.TheVariants.{Best}
use Rattle.ml_cert.proofs.Certified.{best_exactly}
use Rattle.ml_cert.proofs.OneVerdict.{one_verdict}
use Rattle.ml_cert.proofs.judge.judge.Goals as goal

pub loop-i-preserved : goal.loop-i-preserved
loop-i-preserved c = below_more _ _ c.loop-i.invariant c.in_default.ensures

pub returns-in-Some-clause-best : goal.returns-in-Some-clause-best
returns-in-Some-clause-best c =
    best_exactly c.sound_slots.ensures c.args.labels.now c.args.slots.now c.in-Some.verdict c.requires.lengths c.in-Some.ensures

pub returns-in-Some-clause-one : goal.returns-in-Some-clause-one
returns-in-Some-clause-one c = λ verdict is. one_verdict c.args.labels.now c.args.slots.now c.in-Some.verdict verdict c.in-Some.ensures is

pub returns-clause-one : goal.returns-clause-one
returns-clause-one c = λ verdict is. one_verdict c.args.labels.now c.args.slots.now Best verdict (λ i h. c.loop-i.invariant i (omega arith)) is

pub returns-clause-best : goal.returns-clause-best
returns-clause-best c =
    let sound : (i : ℕ) → i < length c.args.labels.now → IsSound c.args.labels.now c.args.slots.now i = (λ (i : ℕ) (h : i < length c.args.labels.now). c.loop-i.invariant i (omega arith)) in
    best_exactly c.sound_slots.ensures c.args.labels.now c.args.slots.now Best c.requires.lengths sound
