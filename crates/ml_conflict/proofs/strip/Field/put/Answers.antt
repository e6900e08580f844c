use Rattle.std.proofs.Common.{sym, subst, ◌∙◌}
use Rattle.std.proofs.lemmas.List.{get_or_default}
use Rattle.ml_conflict.specs.Field.{HasSpot}
use Rattle.ml_conflict.specs.Strip.{IsStripOf}
use Rattle.ml_conflict.specs.declared.strip.Strip.{Strip}
use Rattle.ml_conflict.proofs.Blocks.{blocks_set}
use Rattle.ml_conflict.proofs.Putting.{strips_set, place_here, places_kept}
use Rattle.ml_conflict.proofs.strip.Field.put.Goals as goal

pub put-requires-clause-strip : goal.put-requires-clause-strip
put-requires-clause-strip c = subst (λ (s : Strip). IsStripOf c.args.labels.now s.spots.items s.area)
    (sym c.index_mut-strip.ensures.value) (c.requires.good c.home-home.result c.index_mut-strip.result.now c.home-home.ensures)

pub returns-clause-good : goal.returns-clause-good
returns-clause-good c = strips_set c.args.labels.now c.args.self.now.strips.items c.home-home.result c.put.new.self c.home-home.ensures c.requires.good c.in_ok-put.ensures.strip

pub returns-clause-kept : goal.returns-clause-kept
returns-clause-kept c = places_kept c.args.labels.now c.args.self.now.strips.items c.home-home.result c.put.new.self c.home-home.ensures
    (λ j has. c.in_ok-put.ensures.kept j (subst (λ (s : Strip). HasSpot s.spots.items j)
    (get_or_default c.args.self.now.strips.items c.home-home.result c.put.new.self c.index_mut-strip.result.now c.home-home.ensures ∙ sym c.index_mut-strip.ensures.value) has))

pub returns-clause-here : goal.returns-clause-here
returns-clause-here c = place_here c.args.labels.now c.args.self.now.strips.items c.home-home.result c.put.new.self c.home-home.ensures c.args.spot.place c.in_ok-put.ensures.here

pub returns-clause-blocks : goal.returns-clause-blocks
returns-clause-blocks c =
    blocks_set c.args.self.now.strips.items c.home-home.result c.put.new.self c.args.self.now.blocks.items c.widen.new.blocks.items c.home-home.ensures c.requires.blocks
    c.widen.ensures.many c.widen.ensures.others c.widen.ensures.kept c.widen.ensures.here
