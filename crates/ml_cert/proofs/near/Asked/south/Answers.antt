use Rattle.std.proofs.Common.{◌≡◌, ℕ, ◌-◌, ◌<◌, inl, inr, length, arith, subst, w64, FitsSigned}
use Rattle.std.proofs.lemmas.Int.{ints, to_z-of_z}
use Rattle.ml_cone.specs.Slots.{ends}
use Rattle.ml_conflict.specs.Field.{SeesSpot}
use Rattle.ml_conflict.proofs.lemmas.Strips as strips
use Rattle.ml_cert.specs.Near.{IsDueAmong}
use Rattle.ml_cert.proofs.Nearby.{aside_there, due_of_none, due_wider, due_with}
use Rattle.ml_cert.proofs.near.Asked.south.Goals as goal

pub loop-left-init : goal.loop-left-init
loop-left-init c =
    record {
      in_range = omega arith;
      among = due_of_none c.args.self.now.labels.now (ends c.args.self.now.slots.now) c.args.self.now.place
          (SeesSpot c.args.spots.now c.args.start c.args.start) (λ j saw. absurd (omega (arith, saw.1, saw.2)));
    }

pub loop-left-preserved : goal.loop-left-preserved
loop-left-preserved c =
    let self = c.args.self.now in
    let labels = self.labels.now in
    let low = self.low.now in
    let spots = c.args.spots.now in
    let area = c.args.area.now in
    let strip = c.requires.strip in
    let left = c.loop-left.left in
    let spot = c.index-spots-at.result in
    let at_in : left - 1 < length spots = (let r = c.loop-left.invariant.in_range in let s = c.requires.start in omega arith) in
    record {
      in_range = omega (arith, c.loop-left.invariant.in_range);
      among = due_with labels (ends self.slots.now) self.place (SeesSpot spots left c.args.start)
          (SeesSpot spots (left - 1) c.args.start) spot.place c.loop-left.due c.in_ok-due.due c.loop-left.invariant.among c.in_ok-due.ensures
          (strips.south_more labels low spots area strip (left - 1) c.args.start spot at_in c.index-spots-at.is left (omega arith));
    }

pub returns-then-is_beyond : goal.returns-then-is_beyond
returns-then-is_beyond c =
    let known = c.known_limits.ensures in
    let self = c.args.self.now in
    let labels = self.labels.now in
    let low = self.low.now in
    let spots = c.args.spots.now in
    let area = c.args.area.now in
    let strip = c.requires.strip in
    let left = c.loop-left.left in
    let spot = c.index-spots-at.result in
    let s = c.requires.start in
    let at_in : left - 1 < length spots = (let r = c.loop-left.invariant.in_range in omega arith) in
    let wl = low.world_y in
    let ws = spot.world_y in
    let fl : FitsSigned w64 low.y = omega (arith, ints) in
    let fs : FitsSigned w64 spot.y = omega (arith, ints) in
    let beyond = simp to_z-of_z at (rw c.y.ensures at (c.is_beyond.ensures c.if-is_beyond.true)) in
    due_wider labels (ends self.slots.now) self.place (SeesSpot spots left c.args.start) (SeesSpot spots 0 c.args.start) c.loop-left.due c.loop-left.invariant.among
    (λ j saw lt. elim (strips.south_far labels low spots area strip
    (left - 1) c.args.start spot at_in c.index-spots-at.is self.area.along self.its_area.along self.until (ends self.slots.now) left (omega arith) s beyond j saw) [
      | inl old ↦ inl old
      | inr none ↦ inr (aside_there known self j lt none)
    ])

pub next_due-requires : goal.next_due-requires
next_due-requires c =
    let r = c.loop-left.invariant.in_range in
    let s = c.requires.start in
    rw c.index-spots-at.is (c.requires.strip.good (c.loop-left.left - 1) c.index-spots-at.result (omega arith))

pub returns : goal.returns
returns c =
    let none : c.loop-left.left ≡ 0 = omega arith in
    subst (λ (k : ℕ). IsDueAmong c.args.self.now.labels.now (ends c.args.self.now.slots.now) c.args.self.now.place
    (SeesSpot c.args.spots.now k c.args.start) c.loop-left.due) none c.loop-left.invariant.among
