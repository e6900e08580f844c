use Rattle.std.proofs.Common.{◌∙◌, ap}
use Rattle.ml_store.specs.declared.row.Row.{Row}
use Rattle.ml_store.specs.Shelf.{AreInPlace}
use Rattle.ml_store.proofs.Shelves.{live_there, one_row}
use Rattle.ml_store.proofs.rows.Rows.with_number.Goals as goal

pub row-requires : goal.row-requires
row-requires c =
    let inv : AreInPlace c.self.inside.shelf c.self.inside.numbers c.args.self.now = rw (← c.self.view_is) c.self.invariant in
    let live = live_there c.self.inside.shelf c.args.self.now c.args.number inv.shelved c.requires in
    (live.0, live.3)

pub returns-clause-number : goal.returns-clause-number
returns-clause-number c =
    let inv : AreInPlace c.self.inside.shelf c.self.inside.numbers c.args.self.now = rw (← c.self.view_is) c.self.invariant in
    let live = live_there c.self.inside.shelf c.args.self.now c.args.number inv.shelved c.requires in
    ap (λ (r : Row). r.number) (one_row c.self.inside.shelf c.args.number c.row.result.now live.0 c.row.ensures live.3) ∙ live.2

pub returns-clause-row : goal.returns-clause-row
returns-clause-row c =
    let inv : AreInPlace c.self.inside.shelf c.self.inside.numbers c.args.self.now = rw (← c.self.view_is) c.self.invariant in
    let live = live_there c.self.inside.shelf c.args.self.now c.args.number inv.shelved c.requires in
    rw (one_row c.self.inside.shelf c.args.number c.row.result.now live.0 c.row.ensures live.3) live.1
