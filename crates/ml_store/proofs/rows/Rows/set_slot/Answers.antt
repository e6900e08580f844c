use Rattle.std.proofs.Common.{◌∙◌, ap, sym, get_or}
use Rattle.ml_store.specs.Table.{with_slot}
use Rattle.ml_store.specs.declared.row.Row.{Row}
use Rattle.ml_store.specs.Shelf.{AreInPlace}
use Rattle.ml_store.proofs.Shelves.{some_there, place_there, shelved_slot, rows_are, in_place}
use Rattle.ml_store.proofs.Tables.{numbers-with_slot, numbered_moved}
use Rattle.ml_store.proofs.rows.Rows.set_slot.Goals as goal

pub set_slot-requires : goal.set_slot-requires
set_slot-requires c =
    let inv : AreInPlace c.self.inside.shelf c.self.inside.numbers c.args.self.now = rw (← c.self.view_is) c.self.invariant in
    some_there c.self.inside.shelf c.args.self.now c.args.at c.at.result inv.shelved c.requires.is_place (c.at.ensures ∙ ap (λ ns. get_or ns c.args.at 0) inv.numbers_are)

pub invariant_of-self : goal.invariant_of-self
invariant_of-self c =
    let inv : AreInPlace c.self.inside.shelf c.self.inside.numbers c.args.self.now = rw (← c.self.view_is) c.self.invariant in
    let rows = c.args.self.now in
    let shelf = c.self.inside.shelf in
    let at = c.at.ensures ∙ ap (λ ns. get_or ns c.args.at 0) inv.numbers_are in
    let there = some_there shelf rows c.args.at c.at.result inv.shelved c.requires.is_place at in
    let r : Row = there.0 in
    let all = shelved_slot shelf rows c.args.at c.at.result c.args.slot r inv.shelved inv.numbered.differ c.requires.is_place at
    (place_there shelf c.at.result r there.1) there.1 in
    let e = inv.numbers_are ∙ sym (numbers-with_slot rows c.args.at c.args.slot) in
    rw (c.set_slot.ensures r there.1) (in_place _ _ (with_slot rows c.args.at c.args.slot) all e (numbered_moved rows c.args.at c.args.slot inv.numbered))

pub returns : goal.returns
returns c =
    let inv : AreInPlace c.self.inside.shelf c.self.inside.numbers c.args.self.now = rw (← c.self.view_is) c.self.invariant in
    let rows = c.args.self.now in
    let shelf = c.self.inside.shelf in
    let at = c.at.ensures ∙ ap (λ ns. get_or ns c.args.at 0) inv.numbers_are in
    let there = some_there shelf rows c.args.at c.at.result inv.shelved c.requires.is_place at in
    let r : Row = there.0 in
    let all = shelved_slot shelf rows c.args.at c.at.result c.args.slot r inv.shelved inv.numbered.differ c.requires.is_place at
    (place_there shelf c.at.result r there.1) there.1 in
    let e = inv.numbers_are ∙ sym (numbers-with_slot rows c.args.at c.args.slot) in
    record { rows = rw (c.set_slot.ensures r there.1) (rows_are _ _ (with_slot rows c.args.at c.args.slot) all e) }
