use Rattle.std.proofs.Common.{◌≡◌, ℕ, length, get_or, arith, ap, subst, w64, FitsSigned}
use Rattle.std.proofs.lemmas.Int.{ints, to_z-of_z}
use Rattle.ml_ratio.specs.Fraction.{value_of}
use Rattle.ml_conflict.specs.Field.{SeesSpot}
use Rattle.ml_pass.specs.Search.{rivals_in, IsSearched}
use Rattle.ml_pass.proofs.Searching.{searched_none}
use Rattle.ml_pass.proofs.Gathering.{north_more, north_far}
use Rattle.ml_pass.proofs.search.Search.north.Goals as goal

pub loop-right-init : goal.loop-right-init
loop-right-init c =
    searched_none c.args.self.now.low.now (rivals_in c.args.self.now.labels.now c.args.self.now.slots.now c.args.self.now.low.now) (length c.args.self.now.slots.now)
    (SeesSpot c.args.strip.now.spots.items c.args.seen.right c.args.seen.right) (value_of c.args.seen.bound) c.args.places.now.items
    (λ j saw lt. absurd (omega (arith, saw.1, saw.2)))

pub loop-right-preserved : goal.loop-right-preserved
loop-right-preserved c =
    let spots = c.args.strip.now.spots.items in
    let value = c.as_slice-spots.ensures.value in
    let sized = ap length value in
    let is : c.index-spots-right.result ≡ get_or spots c.loop-right.right c.index-spots-right.result = rw value at c.index-spots-right.is in
    north_more c.args.self.now.labels.now c.args.self.now.slots.now c.args.self.now.low.now spots c.args.strip.now.area
    c.requires.strip c.loop-right.right c.args.seen.right c.index-spots-right.result (omega arith) is
    (value_of c.args.seen.bound) c.args.places.now.items c.loop-right.places.items (value_of c.loop-right.bound)
    (value_of c.in_ok-bound.bound) c.look.new.places.items c.loop-right.invariant c.in_ok-bound.ensures

pub returns-then-is_beyond-clause-searched : goal.returns-then-is_beyond-clause-searched
returns-then-is_beyond-clause-searched c =
    let low = c.args.self.now.low.now in
    let spots = c.args.strip.now.spots.items in
    let spot = c.index-spots-right.result in
    let value = c.as_slice-spots.ensures.value in
    let sized = ap length value in
    let is : spot ≡ get_or spots c.loop-right.right spot = rw value at c.index-spots-right.is in
    let wl = low.world_y in
    let ws = spot.world_y in
    let fl : FitsSigned w64 low.y = omega (arith, ints) in
    let fs : FitsSigned w64 spot.y = omega (arith, ints) in
    let beyond = simp to_z-of_z at (rw c.y.ensures at (c.is_beyond.ensures c.if-is_beyond.true)) in
    rw value (north_far c.args.self.now.labels.now c.args.self.now.slots.now low spots c.args.strip.now.area c.requires.strip c.loop-right.right c.args.seen.right spot
    (omega arith) is (value_of c.args.seen.bound) c.args.places.now.items c.loop-right.places.items
    c.args.self.now.area c.args.self.now.its_area c.loop-right.bound beyond c.loop-right.invariant)

pub look-requires : goal.look-requires
look-requires c =
    let value = c.as_slice-spots.ensures.value in
    let sized = ap length value in
    let is = rw value at c.index-spots-right.is in
    rw is (c.requires.strip.good c.loop-right.right c.index-spots-right.result (omega arith))

pub returns-clause-searched : goal.returns-clause-searched
returns-clause-searched c =
    let all : c.loop-right.right ≡ c.min-until.result = (let sized = ap length c.as_slice-spots.ensures.value in let s = c.requires.within in omega arith) in
    subst (λ (k : ℕ). IsSearched c.args.self.now.low.now (rivals_in c.args.self.now.labels.now c.args.self.now.slots.now c.args.self.now.low.now) (length c.args.self.now.slots.now)
    (SeesSpot c.args.strip.now.spots.items c.args.seen.right k) (value_of c.args.seen.bound) (value_of c.loop-right.bound) c.args.places.now.items c.loop-right.places.items) all c.loop-right.invariant
