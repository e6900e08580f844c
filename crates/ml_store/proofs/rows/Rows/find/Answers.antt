use Rattle.std.proofs.Common.{◌∙◌}
use Rattle.std.proofs.lemmas.List.{get_or_default}
use Rattle.ml_store.specs.Shelf.{AreInPlace}
use Rattle.ml_store.proofs.rows.Rows.find.Goals as goal

pub with_number-requires : goal.with_number-requires
with_number-requires c =
    let inv : AreInPlace c.self.inside.shelf c.self.inside.numbers c.args.self.now = rw (← c.self.view_is) c.self.invariant in
    let there = c.in-Some.ensures.place in
    rw (← inv.numbers_are) (_, there.0, get_or_default c.self.inside.numbers _ c.args.number 0 there.0 ∙ there.1)

pub returns-in-None : goal.returns-in-None
returns-in-None c =
    let inv : AreInPlace c.self.inside.shelf c.self.inside.numbers c.args.self.now = rw (← c.self.view_is) c.self.invariant in
    record { row = λ there. c.in-None.ensures.place (rw inv.numbers_are there); numbered = inv.numbered }
