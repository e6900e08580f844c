use Rattle.std.proofs.Common.{◌≡◌, List, [], ◌∷◌, ◌++◌, map, ap, ◌∙◌}
use Rattle.ml_gen.specs.Thing.{Thing, thing_of, things_in}
use Rattle.ml_gen.proofs.Added.{five_more}
use Rattle.ml_gen.proofs.things.push_things.Goals as goal

pub returns : goal.returns
returns c =
    let same : thing_of c.in_ok-first_town.field-0 ∷ thing_of c.in_ok-town.field-0 ∷ thing_of c.in_ok-town-2.field-0
    ∷ thing_of c.in_ok-river.field-0 ∷ thing_of c.in_ok-area.field-0 ∷ [] ≡ things_in c.args.group.now =
    cc (c.in_ok-first_town.ensures, c.in_ok-town.ensures, c.in_ok-town-2.ensures, c.in_ok-river.ensures, c.in_ok-area.ensures) in
    five_more c.args.features.now c.push.new.self c.push-2.new.self c.push-3.new.self c.push-4.new.self c.push-5.new.self
    c.in_ok-first_town.field-0 c.in_ok-town.field-0 c.in_ok-town-2.field-0 c.in_ok-river.field-0 c.in_ok-area.field-0
    c.in_ok-push.ensures.ok c.in_ok-push-2.ensures.ok c.in_ok-push-3.ensures.ok c.in_ok-push-4.ensures.ok c.in_ok-push-5.ensures.ok
    ∙ ap (λ (ts : List Thing). map thing_of c.args.features.now ++ ts) same
