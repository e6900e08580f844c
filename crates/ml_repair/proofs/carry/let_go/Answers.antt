use Rattle.std.proofs.Common.{◌∙◌, sym, ap, subst}
use Rattle.ml_store.specs.Rows.{HasId, labels_in}
use Rattle.ml_store.specs.declared.row.Row.{Row}
use Rattle.ml_repair.proofs.carry.let_go.Goals as goal

pub take_id-requires-in-Replace-clause-live : goal.take_id-requires-in-Replace-clause-live
take_id-requires-in-Replace-clause-live c =
    subst (HasId (labels_in c.args.store.now.rows)) (sym (c.id.ensures ∙ ap (λ (r : Row). r.label.order.id) c.deref.ensures)) (rw c.in-Replace.is at c.requires.possible)
