use Rattle.std.proofs.Common.{◌∙◌, ap, get_or}
use Rattle.ml_store.specs.Shelf.{AreInPlace}
use Rattle.ml_store.proofs.Shelves.{some_there}
use Rattle.ml_store.proofs.rows.Rows.at.Goals as goal

pub row-requires : goal.row-requires
row-requires c =
    let inv : AreInPlace c.self.inside.shelf c.self.inside.numbers c.args.self.now = rw (← c.self.view_is) c.self.invariant in
    some_there c.self.inside.shelf c.args.self.now c.args.at c.at.result inv.shelved c.requires (c.at.ensures ∙ ap (λ ns. get_or ns c.args.at 0) inv.numbers_are)
