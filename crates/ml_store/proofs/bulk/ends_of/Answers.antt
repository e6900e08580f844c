use Rattle.std.proofs.Common.{arith, ap, ◌∙◌, sym, ◌++◌, ◌∷◌, [], List}
use Rattle.ml_ratio.specs.declared.ratio.Ratio.{Ratio}
use Rattle.ml_store.specs.Rows.{untils_in}
use Rattle.ml_store.proofs.Endings.{untils_next}
use Rattle.ml_store.proofs.Gathered.{all_read}
use Rattle.ml_store.proofs.bulk.ends_of.Goals as goal

pub loop-row-preserved : goal.loop-row-preserved
loop-row-preserved c =
    let boxes = c.args.rows.now in
    let b = c.row-item.result in
    rw (c.in_ok-push.ensures.items, c.deref.ensures)
    (ap (λ (l : List Ratio). l ++ b.value.slot.until ∷ []) c.loop-row.invariant ∙ sym (untils_next boxes c.loop-row.row-index b (omega arith) c.row-item.is))

pub returns : goal.returns
returns c = c.loop-row.invariant ∙ ap untils_in (all_read c.args.rows.now c.loop-row.row-index (omega arith))
