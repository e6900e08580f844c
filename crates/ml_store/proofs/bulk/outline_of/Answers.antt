use Rattle.std.proofs.Common.{arith, take, subst, List}
use Rattle.std.proofs.lemmas.List.Elements.{All-weaker}
use Rattle.ml_cone.specs.Outline.{IsWithin}
use Rattle.ml_store.specs.Boxes.{unboxed}
use Rattle.ml_store.specs.Store.{AreWithin}
use Rattle.ml_store.specs.declared.row.Row.{Row}
use Rattle.ml_store.proofs.Gathered.{added_box, all_read}
use Rattle.ml_store.proofs.Lists.{all_longer}
use Rattle.ml_store.proofs.bulk.outline_of.Goals as goal

pub loop-row-preserved : goal.loop-row-preserved
loop-row-preserved c =
    let boxes = c.args.rows.now in
    let b = c.row-item.result in
    let next = c.with-outline.result in
    all_longer (λ (r : Row). IsWithin next r.label) (added_box boxes c.loop-row.row-index b (omega arith) c.row-item.is) (rw c.deref.ensures at c.with-outline.ensures.new)
    (All-weaker (λ (r : Row). IsWithin c.loop-row.outline r.label) (λ (r : Row). IsWithin next r.label)
    (λ r h. c.with-outline.ensures.kept r.label h) (take c.loop-row.row-index (unboxed boxes)) c.loop-row.invariant)

pub returns : goal.returns
returns c =
    let read = all_read c.args.rows.now c.loop-row.row-index (omega arith) in
    subst (λ (rows : List Row). AreWithin c.loop-row.outline rows) read c.loop-row.invariant
