use Rattle.std.proofs.Common.{◌≡◌, subst, sym, List, ℕ}
use Rattle.ml_store.specs.Rows.{labels_in, HasId}
use Rattle.ml_store.specs.declared.row.Row.{Row}
use Rattle.ml_tests_live.proofs.Known.{known}
use Rattle.ml_tests_live.proofs.engine.coming.Goals as goal

-- an id, and the same behind a reference
same_id : (rows : List Row) (id lent : List ℕ) → lent ≡ id → HasId (labels_in rows) lent → HasId (labels_in rows) id
same_id rows id lent same has = subst (HasId (labels_in rows)) same has

pub plan_replace-requires : goal.plan_replace-requires
plan_replace-requires g c =
    record { live = same_id c.args.engine.now.rows c.args.label.order.id c.id.result.now c.id.ensures (known c.args.engine.now.rows c.id.result.now c.in-Some._number c.in-Some.ensures) }

pub plan_add-requires-clause-new_id : goal.plan_add-requires-clause-new_id
plan_add-requires-clause-new_id g c has = c.in-None.ensures (same_id c.args.engine.now.rows c.id.result.now c.args.label.order.id (sym c.id.ensures) has)
