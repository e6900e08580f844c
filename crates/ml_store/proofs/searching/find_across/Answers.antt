use Rattle.std.proofs.Common.{arith}
use Rattle.std.proofs.lemmas.Int.{ints}
use Rattle.ml_store.proofs.Finding.{found_across}
use Rattle.ml_store.proofs.searching.find_across.Goals as goal

pub all_in_cells-requires : goal.all_in_cells-requires
all_in_cells-requires c = let few = c.cells_across-next.ensures.few in let f0 = few.0 in let f1 = few.1 in record { few = (omega (arith, ints), omega (arith, ints)) }

pub returns-clause-whole : goal.returns-clause-whole
returns-clause-whole c =
    found_across c.args.rows.now.rows c.args.grid.now.entries c.requires.kept c.args.outline.now
    c.requires.within c.args.label.now c.args.band c.cells_across-next.result.1 c.cells_across-next.result.0
    c.cells_across-next.ensures.whole c.in_ok-numbers.numbers c.in_ok-numbers.ensures
