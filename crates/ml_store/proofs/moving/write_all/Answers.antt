use Rattle.ml_store.proofs.Renewing.{own_places, renewed_kept, differ_all_moved}
use Rattle.ml_store.proofs.moving.write_all.Goals as goal

pub renew_ends-requires : goal.renew_ends-requires
renew_ends-requires c = own_places c.args.table.now.rows c.args.grid.now.entries c.requires.stored.differ c.requires.stored.kept

pub returns-clause-stored : goal.returns-clause-stored
returns-clause-stored c =
    let rows = c.args.table.now.rows in
    record {
      differ = rw c.write_pairs.ensures.rows (differ_all_moved c.args.moved.now rows c.requires.stored.differ);
      kept = rw (c.renew_ends.ensures.entries, c.write_pairs.ensures.rows) (renewed_kept rows c.args.grid.now.entries c.requires.stored.differ c.requires.stored.kept c.args.moved.now);
      paired = c.write_pairs.ensures.paired;
    }
