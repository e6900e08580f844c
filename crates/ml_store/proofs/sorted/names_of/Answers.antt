use Rattle.std.proofs.Common.{◌∙◌, ◌∷◌, [], ◌++◌, ap, sym, arith, List}
use Rattle.std.proofs.lemmas.List.{map-append}
use Rattle.ml_store.specs.Boxes.{unboxed}
use Rattle.ml_store.specs.Named.{name_of}
use Rattle.ml_store.specs.Names.{Name, naming_of}
use Rattle.ml_store.proofs.Gathered.{box_read, names_next, row_there}
use Rattle.ml_store.proofs.sorted.names_of.Goals as goal

pub loop-row-preserved : goal.loop-row-preserved
loop-row-preserved c =
    let boxes = c.args.rows.now in
    let rows = unboxed boxes in
    let i = c.loop-row.row-index in
    let b = c.row-item.result in
    let there = row_there boxes i b (omega arith) c.row-item.is in
    let next = names_next rows i b.value there (box_read boxes i b (omega arith) c.row-item.is) in
    rw (c.in_ok-push.ensures.items, map-append name_of c.loop-row.names.items, c.as_bytes.ensures.value, c.as_str.ensures.bytes, c.id.ensures, c.deref.ensures, c.deref-in-loop-row.ensures)
    (ap (λ (ns : List Name). ns ++ naming_of b.value ∷ []) c.loop-row.invariant ∙ sym next)
