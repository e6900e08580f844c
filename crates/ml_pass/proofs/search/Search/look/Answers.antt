use Rattle.std.proofs.Common.{◌≡◌, ◌<◌, length, get_or, arith, subst, sym}
use Rattle.ml_ratio.specs.Fraction.{value_of}
use Rattle.ml_cone.specs.Near.{AreClear}
use Rattle.ml_cone.specs.Slots.{no_slot}
use Rattle.ml_pass.specs.Search.{rivals_in}
use Rattle.ml_pass.proofs.Searching.{SetsNone, searched_none, searched_one, none_there, limit_there}
use Rattle.ml_pass.proofs.search.Search.look.Goals as goal

pub returns-then-place-self : goal.returns-then-place-self
returns-then-place-self c =
    searched_none c.args.self.now.low.now (rivals_in c.args.self.now.labels.now c.args.self.now.slots.now c.args.self.now.low.now)
    (length c.args.self.now.slots.now) (λ j. j ≡ c.args.spot.now.place) (value_of c.args.bound) c.args.places.now.items
    (λ j saw lt. absurd (omega (arith, saw, lt, c.if-place-self.true)))

pub returns-then-is_clear : goal.returns-then-is_clear
returns-then-is_clear c =
    let low = c.args.self.now.low.now in
    let labels = c.args.self.now.labels.now in
    let slots = c.args.self.now.slots.now in
    let place = c.args.spot.now.place in
    let clear : AreClear low (get_or labels place low) c.args.bound.num c.args.bound.den =
    rw (c.of_ratio.ensures.num, c.of_ratio.ensures.den) at (c.if-is_clear.ensures low (get_or labels place low) c.args.self.now.its_site (c.requires.site low)) in
    searched_none low (rivals_in labels slots low) (length slots) (λ j. j ≡ place) (value_of c.args.bound) c.args.places.now.items
    (λ j saw lt. subst (SetsNone low (rivals_in labels slots low) (value_of c.args.bound)) (sym saw)
    (c.clear_labels.ensures low (get_or labels place low) (value_of (get_or slots place no_slot).until) (value_of c.args.bound) clear))

pub returns-then-is_clear-2 : goal.returns-then-is_clear-2
returns-then-is_clear-2 c =
    let low = c.args.self.now.low.now in
    let labels = c.args.self.now.labels.now in
    let slots = c.args.self.now.slots.now in
    let place = c.args.spot.now.place in
    let u = value_of (get_or slots place c.index-self-place.result).until in
    let clear : AreClear low (get_or labels place low) u.num u.den =
    rw (c.of_ratio-2.ensures.num, c.of_ratio-2.ensures.den) at (c.if-is_clear-2.ensures low (get_or labels place low) c.args.self.now.its_site (c.requires.site low)) in
    searched_none low (rivals_in labels slots low) (length slots) (λ j. j ≡ place) (value_of c.args.bound) c.args.places.now.items
    (λ j saw lt. none_there labels slots low place low c.index-self-place.result c.requires.there (omega (arith, c.if-place-self.false))
    (value_of c.args.bound) (c.ended_labels.ensures low (get_or labels place low) u (value_of c.args.bound) clear) j saw)

pub returns-in-None : goal.returns-in-None
returns-in-None c =
    let low = c.args.self.now.low.now in
    let labels = c.args.self.now.labels.now in
    let slots = c.args.self.now.slots.now in
    let place = c.args.spot.now.place in
    searched_none low (rivals_in labels slots low) (length slots) (λ j. j ≡ place) (value_of c.args.bound) c.args.places.now.items
    (λ j saw lt. none_there labels slots low place c.index-self-place-2.result c.index-self-place.result c.requires.there
    (omega (arith, c.if-place-self.false)) (value_of c.args.bound) c.in-None.ensures.none j saw)

pub returns-in_ok-push-in-Some : goal.returns-in_ok-push-in-Some
returns-in_ok-push-in-Some c =
    let low = c.args.self.now.low.now in
    let labels = c.args.self.now.labels.now in
    let slots = c.args.self.now.slots.now in
    let place = c.args.spot.now.place in
    let before : place < length slots = omega (arith, c.if-place-self.false) in
    let limit = limit_there labels slots low place c.index-self-place-2.result c.index-self-place.result c.requires.there before (value_of c.in-Some.limit) c.in-Some.ensures.some in
    rw c.in_ok-push-in-Some.ensures.items (searched_one low (rivals_in labels slots low) (length slots) place
    (value_of c.args.bound) (value_of c.in-Some.limit) c.args.places.now.items before limit c.in-Some.ensures.below.1)
