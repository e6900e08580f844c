use Rattle.ml_store.proofs.Finding.{on_ok, found_near}
use Rattle.ml_store.proofs.searching.find_near.Goals as goal

pub returns : goal.returns
returns c = record {
  ok = on_ok c.in_hull.result _ _ (found_near c.args.rows.now.rows c.args.grid.now.entries c.requires.kept c.args.label.now c.args.band c.args.out.now c.in_hull.new.out) c.in_hull.ensures;
}
