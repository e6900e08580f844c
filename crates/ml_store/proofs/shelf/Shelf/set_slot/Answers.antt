use Rattle.std.proofs.Common.{◌≡◌, ◌<◌, ap, sym, ◌∙◌, Some, None, get_or, length, arith}
use Rattle.std.proofs.lemmas.List.{map-set, length-map, get_or_default}
use Rattle.ml_store.specs.Shelf.{unboxed_one, row_at}
use Rattle.ml_store.proofs.Shelves.{row_read, one_row, place_there}
use Rattle.ml_store.proofs.shelf.Shelf.set_slot.Goals as goal

pub returns : goal.returns
returns c r there =
    let items = c.self.inside.places.items in
    let n = c.args.number in
    let many = length-map items unboxed_one in
    let same = ap length c.self.view_is in
    let in' = place_there c.args.self.now n r there in
    let lt : n < length items = omega arith in
    let read : get_or items n None ≡ Some c.in-Some.row = get_or_default items n None c.index_mut.result.now lt ∙ sym c.index_mut.ensures.value ∙ c.in-Some.is in
    let here : row_at c.args.self.now n ≡ Some c.in-Some.row.value = rw (← c.self.view_is) (row_read items n ∙ ap unboxed_one read) in
    let got : c.deref_mut.result.now ≡ r = c.deref_mut.ensures.value ∙ one_row c.args.self.now n c.in-Some.row.value r here there in
    rw (← c.self.view_is, got) (map-set unboxed_one items n _)
