use Rattle.std.proofs.Common.{List, ℕ, arith}
use Rattle.std.proofs.lemmas.Int.{ints}
use Rattle.ml_store.proofs.Finding.{found_overlapping, found_live, if_ok}
use Rattle.ml_store.proofs.searching.find_overlapping.Goals as goal

pub in_cells-requires : goal.in_cells-requires
in_cells-requires c = let few = c.around.ensures.few in let f0 = few.0 in let f1 = few.1 in record { few = (omega (arith, ints), omega (arith, ints)) }

pub returns-clause-whole : goal.returns-clause-whole
returns-clause-whole c =
    if_ok c.in_cells.result _ _ (λ (numbers : List ℕ) found.
    found_overlapping c.args.rows.now.rows c.args.grid.now.entries c.requires.kept c.args.outline.now c.requires.within
    c.args.label.now c.args.band c.args.scale.now c.around.result c.around.ensures.whole numbers found) c.in_cells.ensures

pub returns-clause-live : goal.returns-clause-live
returns-clause-live c =
    if_ok c.in_cells.result _ _ (λ (numbers : List ℕ) found.
    found_live c.args.rows.now.rows c.args.grid.now.entries c.requires.kept c.around.result c.args.scale.now numbers found) c.in_cells.ensures
