use Rattle.std.proofs.Common.{◌∙◌, ap, sym, get_or}
use Rattle.std.specs.Prelude.{remove}
use Rattle.ml_store.specs.declared.row.Row.{Row}
use Rattle.ml_store.specs.Shelf.{AreInPlace}
use Rattle.ml_store.proofs.Shelves.{some_there, shelved_out, rows_are, in_place}
use Rattle.ml_store.proofs.lemmas.Numbered.{numbered_removed}
use Rattle.ml_ratio.proofs.lemmas.Lists.{map_remove}
use Rattle.ml_store.proofs.rows.Rows.remove.Goals as goal

pub take-requires : goal.take-requires
take-requires c =
    let inv : AreInPlace c.self.inside.shelf c.self.inside.numbers c.args.self.now = rw (← c.self.view_is) c.self.invariant in
    some_there c.self.inside.shelf c.args.self.now c.args.at c.at-number.result inv.shelved c.requires.is_place
    (c.at-number.ensures ∙ ap (λ ns. get_or ns c.args.at 0) inv.numbers_are)

pub invariant_of-self : goal.invariant_of-self
invariant_of-self c =
    let inv : AreInPlace c.self.inside.shelf c.self.inside.numbers c.args.self.now = rw (← c.self.view_is) c.self.invariant in
    let rows = c.args.self.now in
    let at = c.at-number.ensures ∙ ap (λ ns. get_or ns c.args.at 0) inv.numbers_are in
    let all = shelved_out c.self.inside.shelf rows c.args.at c.at-number.result inv.shelved inv.numbered.differ c.requires.is_place at in
    let e = ap (λ ns. remove ns c.args.at) inv.numbers_are ∙ sym (map_remove (λ (t : Row). t.number) rows c.args.at) in
    let numbered = numbered_removed rows c.args.at inv.numbered c.requires.is_place in
    rw (c.take.ensures.gone, c.remove.ensures) (in_place _ _ (remove rows c.args.at) all e numbered)

pub returns-clause-rows : goal.returns-clause-rows
returns-clause-rows c =
    let inv : AreInPlace c.self.inside.shelf c.self.inside.numbers c.args.self.now = rw (← c.self.view_is) c.self.invariant in
    let rows = c.args.self.now in
    let at = c.at-number.ensures ∙ ap (λ ns. get_or ns c.args.at 0) inv.numbers_are in
    let all = shelved_out c.self.inside.shelf rows c.args.at c.at-number.result inv.shelved inv.numbered.differ c.requires.is_place at in
    let e = ap (λ ns. remove ns c.args.at) inv.numbers_are ∙ sym (map_remove (λ (t : Row). t.number) rows c.args.at) in
    rw (c.take.ensures.gone, c.remove.ensures) (rows_are _ _ (remove rows c.args.at) all e)
