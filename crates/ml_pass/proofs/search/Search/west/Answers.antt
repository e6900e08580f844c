use Rattle.std.proofs.Common.{◌-◌, length, arith, sym, subst}
use Rattle.ml_ratio.specs.Fraction.{value_of}
use Rattle.ml_conflict.specs.Field.{HasSpot}
use Rattle.ml_conflict.specs.Strip.{IsStripOf}
use Rattle.ml_conflict.specs.declared.strip.Strip.{Strip}
use Rattle.ml_pass.specs.Search.{rivals_in}
use Rattle.ml_pass.proofs.Gathering.{LiesAt, saw_one, turn_left, passed_strips}
use Rattle.ml_pass.proofs.search.Search.west.Goals as goal

pub visit-requires : goal.visit-requires
visit-requires c = record {
  strip = subst (λ (s : Strip). IsStripOf c.args.self.now.labels.now s.spots.items s.area) (sym c.index.ensures)
      (c.requires.strips (c.pass_west-left.result - 1) c.index.result.now (let within = c.requires.within in let until = c.pass_west-left.ensures.until in omega arith));
}

pub returns-then-left-eq0-clause-searched : goal.returns-then-left-eq0-clause-searched
returns-then-left-eq0-clause-searched c =
    passed_strips c.args.self.now.labels.now c.args.self.now.slots.now c.args.self.now.low.now c.args.field.now.strips.items c.pass_west-left.result c.args.seen.left
    c.args.self.now.area (value_of c.args.seen.bound) c.args.places.now.items c.args.self.now.its_area (c.pass_west-left.ensures.away c.args.self.now.labels.now c.requires.strips)

pub returns-clause-searched : goal.returns-clause-searched
returns-clause-searched c =
    let low = c.args.self.now.low.now in
    let rivals = rivals_in c.args.self.now.labels.now c.args.self.now.slots.now low in
    let n = length c.args.self.now.slots.now in
    let left = c.pass_west-left.result in
    let strip : Strip = c.index.result.now in
    turn_left low rivals n (LiesAt c.args.field.now.strips.items) (left - 1) left c.args.seen.left (value_of c.args.seen.bound) (value_of c.args.seen.bound)
    (value_of c.in_ok-bound.bound) c.args.places.now.items c.args.places.now.items c.visit.new.places.items
    (passed_strips c.args.self.now.labels.now c.args.self.now.slots.now low c.args.field.now.strips.items left c.args.seen.left c.args.self.now.area
    (value_of c.args.seen.bound) c.args.places.now.items c.args.self.now.its_area (c.pass_west-left.ensures.away c.args.self.now.labels.now c.requires.strips))
    (saw_one low rivals n (LiesAt c.args.field.now.strips.items) (left - 1) left (value_of c.args.seen.bound) (value_of c.in_ok-bound.bound) c.args.places.now.items
    c.visit.new.places.items (omega arith) (HasSpot strip.spots.items)
    (λ j lies. subst (λ (s : Strip). HasSpot s.spots.items j) (sym c.index.ensures) (lies strip)) c.in_ok-bound.ensures)
