use Rattle.std.proofs.Common.{rules, ◌≡◌, ap, ℤ, pos, ◌+ℤ◌, ◌-ℤ◌, ◌≤ℤ◌, ◌<ℤ◌, arith, w64, FitsSigned}
use Rattle.std.proofs.lemmas.Int.{ints, to_z-of_z}
use Rattle.ml_river.specs.Height.{IsHeight}
use Rattle.ml_river.specs.Chain.{middle, raise}
use Rattle.ml_river.proofs.BoxLemmas.{IsMade, raised}
use Rattle.ml_river.proofs.chain.raised_box.Goals as goal

pub box_of-requires-clause-up : goal.box_of-requires-clause-up
box_of-requires-clause-up c =
    let fl : FitsSigned w64 c.args.l = c.ranges.l in
    let fr : FitsSigned w64 c.args.r = c.ranges.r in
    let aw = c.args.anchor.world_x in
    let ay = c.args.anchor.world_y in
    let fax : FitsSigned w64 c.args.anchor.x = omega (arith, ints, aw.0, aw.1) in
    let fay : FitsSigned w64 c.args.anchor.y = omega (arith, ints, ay.0, ay.1) in
    let fm : FitsSigned w64 c.in-Some.x = search rules in
    let fh : FitsSigned w64 c.height_on_run.result = search rules in
    let fv : FitsSigned w64 c.raise-rise.result = search rules in
    let low = c.raise-rise.ensures.low in
    let high = c.raise-rise.ensures.high in
    let half = c.from.ensures in
    let whole = c.from-in-Some.ensures in
    let hs : FitsSigned w64 c.from.result = search rules in
    let ws : FitsSigned w64 c.from-in-Some.result = search rules in
    let size = c.args.class.size_in.1 in
    let hs' : (pos 0 ≤ℤ c.from.result) × (c.from.result ≤ℤ pos 128) = rw half (omega (arith, ints), omega (arith, ints)) in
    let ws' : (pos 1 ≤ℤ c.from-in-Some.result) × (c.from-in-Some.result ≤ℤ pos 256) = rw whole (omega (arith, ints, c.args.class.size_in.0), omega (arith, ints)) in
    let fb : FitsSigned w64 (c.raise-rise.result -ℤ c.from.result) = omega (arith, ints, low, high, hs'.0, hs'.1) in
    let ft : FitsSigned w64 ((c.raise-rise.result -ℤ c.from.result) +ℤ c.from-in-Some.result) = omega (arith, ints, low, high, hs'.0, hs'.1, ws'.0, ws'.1) in
    let up : (c.raise-rise.result -ℤ c.from.result) <ℤ ((c.raise-rise.result -ℤ c.from.result) +ℤ c.from-in-Some.result) = omega (arith, ints, ws'.0) in
    simp to_z-of_z up

pub returns-in-Some : goal.returns-in-Some
returns-in-Some c =
    let fl : FitsSigned w64 c.args.l = c.ranges.l in
    let fr : FitsSigned w64 c.args.r = c.ranges.r in
    let aw = c.args.anchor.world_x in
    let ay = c.args.anchor.world_y in
    let fax : FitsSigned w64 c.args.anchor.x = omega (arith, ints, aw.0, aw.1) in
    let fay : FitsSigned w64 c.args.anchor.y = omega (arith, ints, ay.0, ay.1) in
    let fm : FitsSigned w64 c.in-Some.x = search rules in
    let fh : FitsSigned w64 c.height_on_run.result = search rules in
    let fv : FitsSigned w64 c.raise-rise.result = search rules in
    let low = c.raise-rise.ensures.low in
    let high = c.raise-rise.ensures.high in
    let half = c.from.ensures in
    let whole = c.from-in-Some.ensures in
    let hs : FitsSigned w64 c.from.result = search rules in
    let ws : FitsSigned w64 c.from-in-Some.result = search rules in
    let size = c.args.class.size_in.1 in
    let hs' : (pos 0 ≤ℤ c.from.result) × (c.from.result ≤ℤ pos 128) = rw half (omega (arith, ints), omega (arith, ints)) in
    let ws' : (pos 1 ≤ℤ c.from-in-Some.result) × (c.from-in-Some.result ≤ℤ pos 256) = rw whole (omega (arith, ints, c.args.class.size_in.0), omega (arith, ints)) in
    let fb : FitsSigned w64 (c.raise-rise.result -ℤ c.from.result) = omega (arith, ints, low, high, hs'.0, hs'.1) in
    let ft : FitsSigned w64 ((c.raise-rise.result -ℤ c.from.result) +ℤ c.from-in-Some.result) = omega (arith, ints, low, high, hs'.0, hs'.1, ws'.0, ws'.1) in
    let m = c.in-Some.ensures in
    let em : c.in-Some.x ≡ middle c.args.class c.args.anchor.x c.args.l c.args.r = simp to_z-of_z at m.middle_is in
    let eh : IsHeight c.args.run.now c.in-Some.x c.height_on_run.result = simp to_z-of_z at c.height_on_run.ensures.height in
    let ev : c.raise-rise.result ≡ raise c.args.class c.args.anchor.y c.height_on_run.result = simp to_z-of_z at c.raise-rise.ensures.value in
    let made : IsMade c.args.l (c.raise-rise.result -ℤ c.from.result) c.args.r ((c.raise-rise.result -ℤ c.from.result) +ℤ c.from-in-Some.result) c.box_of.result = simp to_z-of_z at c.box_of.ensures in
    raised c.args.class c.args.run.now c.args.anchor.x c.args.anchor.y c.args.l c.args.r c.in-Some.x c.height_on_run.result c.raise-rise.result
    (c.raise-rise.result -ℤ c.from.result) ((c.raise-rise.result -ℤ c.from.result) +ℤ c.from-in-Some.result) c.box_of.result em eh ev
    (ap (λ (z : ℤ). c.raise-rise.result -ℤ z) half) (ap (λ (z : ℤ). (c.raise-rise.result -ℤ c.from.result) +ℤ z) whole) made
