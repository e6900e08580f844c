use Rattle.ml_store.specs.Shelf.{AreInPlace}
use Rattle.ml_store.proofs.Tables.{place_found}
use Rattle.ml_store.proofs.rows.Rows.place_of.Goals as goal

pub returns-clause-place : goal.returns-clause-place
returns-clause-place c =
    let inv : AreInPlace c.self.inside.shelf c.self.inside.numbers c.args.self.now = rw (← c.self.view_is) c.self.invariant in
    place_found c.args.self.now c.self.inside.numbers c.args.number c.place_of.result inv.numbers_are c.place_of.ensures.place
