use Rattle.ml_ratio.specs.Fraction.{value_of}
use Rattle.ml_pass.proofs.Gathering.{passed_over}
use Rattle.ml_pass.proofs.search.Search.visit.Goals as goal

pub returns-then-is_away : goal.returns-then-is_away
returns-then-is_away c =
    passed_over c.args.self.now.labels.now c.args.self.now.slots.now c.args.self.now.low.now c.args.strip.now.spots.items c.args.strip.now.area c.requires.strip
    (value_of c.args.bound) c.args.places.now.items
    (λ high u in'. c.is_away.ensures c.if-is_away.true c.args.self.now.low.now high u c.args.self.now.its_area in')
