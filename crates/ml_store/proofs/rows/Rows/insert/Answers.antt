use Rattle.std.proofs.Common.{◌∙◌, ◌<◌, ap, sym, arith, length}
use Rattle.std.specs.Prelude.{insert}
use Rattle.std.proofs.lemmas.List.{length-map}
use Rattle.ml_store.specs.declared.row.Row.{Row}
use Rattle.ml_store.specs.Shelf.{AreInPlace}
use Rattle.ml_store.proofs.Shelves.{shelved_in, rows_are, in_place}
use Rattle.ml_store.proofs.lemmas.Numbered.{numbered_inserted}
use Rattle.ml_ratio.proofs.lemmas.Lists.{map_insert}
use Rattle.ml_store.proofs.rows.Rows.insert.Goals as goal

pub invariant_of-self : goal.invariant_of-self
invariant_of-self c =
    let inv : AreInPlace c.self.inside.shelf c.self.inside.numbers c.args.self.now = rw (← c.self.view_is) c.self.invariant in
    let rows = c.args.self.now in
    let r : Row = c.args.row.value in
    let many = length-map rows (λ (t : Row). t.number) in
    let same = ap length inv.numbers_are in
    let few : length rows < 32768 = (let f = c.insert.ensures.few in omega arith) in
    let all = shelved_in c.self.inside.shelf rows c.args.at r inv.shelved c.requires.fresh (omega (arith, c.put.ensures.places)) in
    let e = ap (λ ns. insert ns c.args.at r.number) inv.numbers_are ∙ sym (map_insert (λ (t : Row). t.number) rows c.args.at r) in
    let numbered = numbered_inserted rows c.args.at r inv.numbered c.requires.is_place few c.requires.fresh c.requires.low in
    rw (c.put.ensures.row, c.insert.ensures.inserted, c.deref.ensures) (in_place _ _ (insert rows c.args.at r) all e numbered)

pub returns-clause-rows : goal.returns-clause-rows
returns-clause-rows c =
    let inv : AreInPlace c.self.inside.shelf c.self.inside.numbers c.args.self.now = rw (← c.self.view_is) c.self.invariant in
    let rows = c.args.self.now in
    let r : Row = c.args.row.value in
    let all = shelved_in c.self.inside.shelf rows c.args.at r inv.shelved c.requires.fresh (omega (arith, c.put.ensures.places)) in
    let e = ap (λ ns. insert ns c.args.at r.number) inv.numbers_are ∙ sym (map_insert (λ (t : Row). t.number) rows c.args.at r) in
    rw (c.put.ensures.row, c.insert.ensures.inserted, c.deref.ensures) (rows_are _ _ (insert rows c.args.at r) all e)
