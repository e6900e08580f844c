use Rattle.std.proofs.Common.{◌≡◌, ℕ, ◌+◌, ◌<◌, get_or, inl, inr, arith, subst}
use Rattle.std.proofs.lemmas.Bool.{cases_lt}
use Rattle.ml_ratio.specs.Fraction.{value_of}
use Rattle.ml_cone.specs.Slots.{ends}
use Rattle.ml_conflict.specs.Field.{HasSpot}
use Rattle.std.specs.Prelude.{slice_range}
use Rattle.ml_cert.specs.Strips.{SeesStrip}
use Rattle.ml_cert.specs.declared.strip.Strip.{Strip}
use Rattle.ml_cert.proofs.Nearby.{aside_there, due_of_none, due_wider, due_both}
use Rattle.ml_cert.proofs.near.Asked.due.Goals as goal

pub loop-k-init : goal.loop-k-init
loop-k-init c =
    due_of_none c.args.self.now.labels.now (ends c.args.self.now.slots.now) c.args.self.now.place
    (SeesStrip c.args.field.now.spots.now c.args.field.now.strips.now 0) (λ j saw. absurd (omega (arith, saw.1)))

pub loop-k-preserved : goal.loop-k-preserved
loop-k-preserved c =
    let self = c.args.self.now in
    let spots = c.args.field.now.spots.now in
    let strips = c.args.field.now.strips.now in
    let at = c.loop-k.k in
    let strip : Strip = get_or strips at c.index-field-k.result in
    due_both self.labels.now (ends self.slots.now) self.place (SeesStrip spots strips at) (HasSpot (slice_range spots strip.from strip.to))
    (SeesStrip spots strips (at + 1)) c.loop-k.due c.in_ok-here.here c.soonest-due.result c.loop-k.invariant c.in_ok-here.ensures c.soonest-due.ensures
    (λ j saw. elim (cases_lt saw.0 at) [
      | inl less ↦ inl (saw.0, less, saw.2)
      | inr more ↦
          let until = saw.1 in
          let same : saw.0 ≡ at = omega arith in
          inr (subst (λ (m : ℕ). HasSpot (slice_range spots (get_or strips m c.index-field-k.result).from (get_or strips m c.index-field-k.result).to) j) same (saw.2 c.index-field-k.result))
    ])

pub returns : goal.returns
returns c =
    let known = c.known_limits.ensures in
    let self = c.args.self.now in
    let labels = self.labels.now in
    let there = self.there in
    due_wider labels (ends self.slots.now) self.place (SeesStrip c.args.field.now.spots.now c.args.field.now.strips.now c.loop-k.k) (λ (j : ℕ). j < self.place) c.loop-k.due c.loop-k.invariant
    (λ j before lt. elim (c.requires.held j (omega arith)) [
      | inl (k, k_lt, has) ↦ inl (k, omega arith, has)
      | inr idle ↦ inr (aside_there known self j lt (c.idle_labels.ensures self.low.now (get_or labels j self.low.now) (ends self.slots.now j) (value_of self.until) (idle self.low.now)))
    ])
