use Rattle.std.proofs.Common.{◌≡◌, ◌∙◌, get_or, subst, arith, w64, FitsSigned}
use Rattle.std.proofs.lemmas.Int.{ints, to_z-of_z}
use Rattle.std.proofs.lemmas.List.{get_or_default}
use Rattle.ml_cone.specs.declared.label.Label.{Label}
use Rattle.ml_conflict.specs.Area.{IsInArea}
use Rattle.ml_conflict.proofs.Putting.{put_strip, put_keeps, put_here}
use Rattle.ml_conflict.proofs.strip.Strip.put.Goals as goal

pub returns-clause-strip : goal.returns-clause-strip
returns-clause-strip c =
    let labels = c.args.labels.now in
    let spots = c.args.self.now.spots.items in
    let spot = c.args.spot in
    let value = c.as_slice.ensures.value in
    let world = spot.world_y in
    let fits : FitsSigned w64 spot.y = omega (arith, ints) in
    let label : Label = c.index-labels-spot.result in
    let own : (d : Label) → label ≡ get_or labels spot.place d = λ d. c.index-labels-spot.is ∙ get_or_default labels spot.place label d c.requires.spot.there in
    rw c.in_ok-insert.ensures.items
    (put_strip labels spots c.args.self.now.area c.with-self.result c.south_of-at.result spot (rw value at c.south_of-at.ensures.within) c.requires.strip c.requires.spot
    (simp to_z-of_z at (rw value at c.south_of-at.ensures.south)) (simp to_z-of_z at (rw value at c.south_of-at.ensures.north)) c.with-self.ensures.first
    (λ d. subst (λ (a : Label). IsInArea a c.with-self.result) (own d) (c.with-self.ensures.second label c.of-own.ensures)))

pub returns-clause-kept : goal.returns-clause-kept
returns-clause-kept c =
    rw c.in_ok-insert.ensures.items (put_keeps c.args.labels.now c.args.self.now.spots.items c.args.self.now.area c.with-self.result c.south_of-at.result c.args.spot
    (rw c.as_slice.ensures.value at c.south_of-at.ensures.within))

pub returns-clause-here : goal.returns-clause-here
returns-clause-here c =
    rw c.in_ok-insert.ensures.items (put_here c.args.labels.now c.args.self.now.spots.items c.args.self.now.area c.with-self.result c.south_of-at.result c.args.spot
    (rw c.as_slice.ensures.value at c.south_of-at.ensures.within))
