use Rattle.std.proofs.lemmas.List.Elements.{All-map}
use Rattle.ml_cone.specs.Outline.{IsWithin}
use Rattle.ml_store.specs.Moved.{moved_row}
use Rattle.ml_store.specs.declared.row.Row.{Row}
use Rattle.ml_store.proofs.store.Store.set_slots.Goals as goal

pub invariant_of-self : goal.invariant_of-self
invariant_of-self c = (
  c.write_slots.ensures.stored,
  rw c.write_slots.ensures.rows (All-map (λ (r : Row). IsWithin c.self.inside.outline r.label) (moved_row c.args.moved.now) c.self.inside.table.rows c.self.invariant.1),
)
