use Rattle.std.proofs.Common.{◌≡◌, ℕ, ◌+◌, ◌⊎◌, inl, inr, List, length, arith, sym, subst, w64, FitsSigned}
use Rattle.std.proofs.lemmas.Bool.{cases_lt}
use Rattle.std.proofs.lemmas.Int.{ints, to_z-of_z}
use Rattle.ml_cone.specs.Slots.{ends}
use Rattle.ml_conflict.specs.Field.{HasSpot, SeesSpot}
use Rattle.ml_conflict.specs.declared.spot.Spot.{Spot}
use Rattle.ml_conflict.proofs.lemmas.Strips as strips
use Rattle.ml_cert.proofs.Nearby.{aside_there, due_wider, due_with}
use Rattle.ml_cert.proofs.near.Asked.north.Goals as goal

-- each spot lies to the one side or the other
split : (spots : List Spot) (start j : ℕ) → SeesSpot spots 0 (length spots) j → SeesSpot spots 0 start j ⊎ SeesSpot spots start (length spots) j
split spots start j saw = elim (cases_lt saw.0 start) [ inl less ↦ inl (saw.0, saw.1, less, saw.3) | inr more ↦ inr (saw.0, more, saw.2, saw.3) ]

pub loop-right-init : goal.loop-right-init
loop-right-init c =
    let self = c.args.self.now in
    let labels = self.labels.now in
    let low = self.low.now in
    let spots = c.args.spots.now in
    let area = c.args.area.now in
    let strip = c.requires.strip in
    due_wider labels (ends self.slots.now) self.place (SeesSpot spots 0 c.args.start)
    (λ (j : ℕ). SeesSpot spots 0 c.args.start j ⊎ SeesSpot spots c.args.start c.args.start j) c.args.before c.requires.before
    (λ j saw lt. elim saw [ inl west ↦ inl west | inr east ↦ absurd (omega (arith, east.1, east.2)) ])

pub loop-right-preserved : goal.loop-right-preserved
loop-right-preserved c =
    let self = c.args.self.now in
    let labels = self.labels.now in
    let low = self.low.now in
    let spots = c.args.spots.now in
    let area = c.args.area.now in
    let strip = c.requires.strip in
    let right = c.loop-right.right in
    let spot = c.index-spots-right.result in
    due_with labels (ends self.slots.now) self.place (λ (j : ℕ). SeesSpot spots 0 c.args.start j ⊎ SeesSpot spots c.args.start right j)
    (λ (j : ℕ). SeesSpot spots 0 c.args.start j ⊎ SeesSpot spots c.args.start (right + 1) j) spot.place c.loop-right.due c.in_ok-due.due c.loop-right.invariant c.in_ok-due.ensures
    (λ j saw. elim saw [
      | inl west ↦ inl (inl west)
      | inr east ↦ elim (strips.north_more labels low spots area strip right c.args.start spot (omega arith) c.index-spots-right.is j east) [ inl old ↦ inl (inr old) | inr same ↦ inr same ]
    ])

pub returns-then-is_beyond : goal.returns-then-is_beyond
returns-then-is_beyond c =
    let known = c.known_limits.ensures in
    let self = c.args.self.now in
    let labels = self.labels.now in
    let low = self.low.now in
    let spots = c.args.spots.now in
    let area = c.args.area.now in
    let strip = c.requires.strip in
    let right = c.loop-right.right in
    let spot = c.index-spots-right.result in
    let wl = low.world_y in
    let ws = spot.world_y in
    let fl : FitsSigned w64 low.y = omega (arith, ints) in
    let fs : FitsSigned w64 spot.y = omega (arith, ints) in
    let beyond = simp to_z-of_z at (rw c.y.ensures at (c.is_beyond.ensures c.if-is_beyond.true)) in
    due_wider labels (ends self.slots.now) self.place (λ (j : ℕ). SeesSpot spots 0 c.args.start j ⊎ SeesSpot spots c.args.start right j) (HasSpot spots) c.loop-right.due c.loop-right.invariant
    (λ j lt less. elim (split spots c.args.start j (strips.sees_whole spots j lt)) [
      | inl west ↦ inl (inl west)
      | inr east ↦ elim (strips.north_far labels low spots area strip right c.args.start spot
          (omega arith) c.index-spots-right.is self.area.along self.its_area.along self.until (ends self.slots.now) beyond j east) [
            | inl old ↦ inl (inr old)
            | inr none ↦ inr (aside_there known self j less none)
          ]
    ])

pub next_due-requires : goal.next_due-requires
next_due-requires c = rw c.index-spots-right.is (c.requires.strip.good c.loop-right.right c.index-spots-right.result (omega arith))

pub returns : goal.returns
returns c =
    let self = c.args.self.now in
    let labels = self.labels.now in
    let low = self.low.now in
    let spots = c.args.spots.now in
    let area = c.args.area.now in
    let strip = c.requires.strip in
    let all : c.loop-right.right ≡ length spots = omega arith in
    due_wider labels (ends self.slots.now) self.place (λ (j : ℕ). SeesSpot spots 0 c.args.start j ⊎ SeesSpot spots c.args.start c.loop-right.right j)
    (HasSpot spots) c.loop-right.due c.loop-right.invariant
    (λ j lt less. elim (split spots c.args.start j (strips.sees_whole spots j lt)) [
      | inl west ↦ inl (inl west)
      | inr east ↦ inl (inr (subst (λ (k : ℕ). SeesSpot spots c.args.start k j) (sym all) east))
    ])
