use Rattle.std.proofs.Common.{◌+◌, length, arith, sym, subst}
use Rattle.ml_ratio.specs.Fraction.{value_of}
use Rattle.ml_conflict.specs.Field.{HasSpot}
use Rattle.ml_conflict.specs.Strip.{IsStripOf}
use Rattle.ml_conflict.specs.declared.strip.Strip.{Strip}
use Rattle.ml_pass.specs.Search.{rivals_in}
use Rattle.ml_pass.proofs.Gathering.{LiesAt, saw_one, turn_right, passed_strips}
use Rattle.ml_pass.proofs.search.Search.east.Goals as goal

pub visit-requires : goal.visit-requires
visit-requires c = record {
  strip = subst (λ (s : Strip). IsStripOf c.args.self.now.labels.now s.spots.items s.area) (sym c.index.ensures)
      (c.requires.strips c.pass_east-right.result c.index.result.now (let within = c.pass_east-right.ensures.within in omega arith));
}

pub returns-then-right-len-clause-searched : goal.returns-then-right-len-clause-searched
returns-then-right-len-clause-searched c =
    passed_strips c.args.self.now.labels.now c.args.self.now.slots.now c.args.self.now.low.now c.args.field.now.strips.items c.args.seen.right c.pass_east-right.result
    c.args.self.now.area (value_of c.args.seen.bound) c.args.places.now.items c.args.self.now.its_area (c.pass_east-right.ensures.away c.args.self.now.labels.now c.requires.strips)

pub returns-clause-searched : goal.returns-clause-searched
returns-clause-searched c =
    let low = c.args.self.now.low.now in
    let rivals = rivals_in c.args.self.now.labels.now c.args.self.now.slots.now low in
    let n = length c.args.self.now.slots.now in
    let right = c.pass_east-right.result in
    let strip : Strip = c.index.result.now in
    turn_right low rivals n (LiesAt c.args.field.now.strips.items) c.args.seen.right right (right + 1) (value_of c.args.seen.bound) (value_of c.args.seen.bound)
    (value_of c.in_ok-bound.bound) c.args.places.now.items c.args.places.now.items c.visit.new.places.items
    (passed_strips c.args.self.now.labels.now c.args.self.now.slots.now low c.args.field.now.strips.items c.args.seen.right right c.args.self.now.area
    (value_of c.args.seen.bound) c.args.places.now.items c.args.self.now.its_area (c.pass_east-right.ensures.away c.args.self.now.labels.now c.requires.strips))
    (saw_one low rivals n (LiesAt c.args.field.now.strips.items) right (right + 1) (value_of c.args.seen.bound) (value_of c.in_ok-bound.bound) c.args.places.now.items
    c.visit.new.places.items (omega arith) (HasSpot strip.spots.items)
    (λ j lies. subst (λ (s : Strip). HasSpot s.spots.items j) (sym c.index.ensures) (lies strip)) c.in_ok-bound.ensures)
