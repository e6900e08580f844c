use Rattle.std.proofs.Common.{◌<◌, length, get_or, arith}
use Rattle.ml_ratio.specs.Fraction.{value_of, IsSame}
use Rattle.ml_cone.specs.Near.{AreClear}
use Rattle.ml_cone.specs.Slots.{ends}
use Rattle.ml_cert.proofs.Nearby.{aside_there, blocker_there, none_read, limit_read}
use Rattle.ml_cert.proofs.near.Asked.stance.Goals as goal

pub returns-then-is_clear : goal.returns-then-is_clear
returns-then-is_clear c lt =
    let known = c.known_limits.ensures in
    let self = c.args.self.now in
    let low = self.low.now in
    let high = get_or self.labels.now c.args.spot.now.place low in
    let clear : AreClear low high self.until.num self.until.den = rw (c.of_ratio.ensures.num, c.of_ratio.ensures.den) at (c.if-is_clear.ensures low high self.its_site (c.requires.site low)) in
    aside_there known self c.args.spot.now.place lt (c.clear_labels.ensures low high (ends self.slots.now c.args.spot.now.place) (value_of self.until) clear)

pub returns-then-is_clear-2 : goal.returns-then-is_clear-2
returns-then-is_clear-2 c lt =
    let known = c.known_limits.ensures in
    let self = c.args.self.now in
    let low = self.low.now in
    let place = c.args.spot.now.place in
    let high = get_or self.labels.now place low in
    let lengths = self.lengths in
    let in' : place < length self.slots.now = (let there = c.requires.there in omega arith) in
    let u = value_of (get_or self.slots.now place c.index-self-place.result).until in
    let clear : AreClear low high u.num u.den = rw (c.of_ratio-2.ensures.num, c.of_ratio-2.ensures.den) at (c.if-is_clear-2.ensures low high self.its_site (c.requires.site low)) in
    aside_there known self place lt (none_read low self.labels.now self.slots.now place low c.index-self-place.result c.requires.there in'
    (value_of self.until) (c.ended_labels.ensures low high u (value_of self.until) clear))

pub returns-in-None : goal.returns-in-None
returns-in-None c lt =
    let known = c.known_limits.ensures in
    let self = c.args.self.now in
    let place = c.args.spot.now.place in
    let lengths = self.lengths in
    let in' : place < length self.slots.now = (let there = c.requires.there in omega arith) in
    aside_there known self place lt (none_read self.low.now self.labels.now self.slots.now place c.index-self-place-2.result
    c.index-self-place.result c.requires.there in' (value_of self.until) c.in-None.ensures.none)

pub returns-else-is_less : goal.returns-else-is_less
returns-else-is_less c =
    let known = c.known_limits.ensures in
    let self = c.args.self.now in
    let place = c.args.spot.now.place in
    let lt : place < self.place = omega (arith, c.if-place-self.false) in
    let lengths = self.lengths in
    let in' : place < length self.slots.now = (let there = c.requires.there in omega arith) in
    let limit = limit_read self.low.now self.labels.now self.slots.now place c.index-self-place-2.result c.index-self-place.result c.requires.there in'
    (value_of c.in-Some.limit) c.in-Some.ensures.some in
    let same : IsSame (value_of c.in-Some.limit) (value_of self.until) = omega (arith, c.if-is_less.ensures, c.in-Some.ensures.below.1) in
    let blocker = blocker_there known self place lt limit c.in-Some.ensures.below.0 same in
    (lt, blocker.0, blocker.1)
