use Rattle.std.proofs.Common.{ℕ, inr, None}
use Rattle.ml_cone.specs.Slots.{ends}
use Rattle.ml_conflict.specs.Field.{HasSpot}
use Rattle.ml_conflict.proofs.lemmas.Strips as strips
use Rattle.ml_cert.proofs.Nearby.{aside_there, due_of_none, due_wider}
use Rattle.ml_ratio.specs.Fraction.{value_of}
use Rattle.ml_cert.proofs.near.Asked.due_in.Goals as goal

pub returns-then-is_away : goal.returns-then-is_away
returns-then-is_away c =
    let known = c.known_limits.ensures in
    let self = c.args.self.now in
    let labels = self.labels.now in
    let none = due_of_none labels (ends self.slots.now) self.place (λ (j : ℕ). ⊥) (λ j saw. saw) in
    due_wider labels (ends self.slots.now) self.place (λ (j : ℕ). ⊥) (HasSpot c.args.spots.now) None none
    (λ j has lt. inr (aside_there known self j lt
    (strips.none_away labels self.low.now c.args.spots.now c.args.area.now c.requires (ends self.slots.now)
    (value_of self.until) (λ high u in'. c.is_away.ensures c.if-is_away.true self.low.now high u self.its_area in') j has)))
