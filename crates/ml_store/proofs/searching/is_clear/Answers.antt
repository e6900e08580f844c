use Rattle.std.proofs.Common.{arith, sym, ap, not, ◌∙◌}
use Rattle.std.proofs.lemmas.Int.{ints}
use Rattle.std.proofs.lemmas.Bool.{false≢true}
use Rattle.ml_store.proofs.Finding.{clear_of}
use Rattle.ml_store.proofs.searching.is_clear.Goals as goal

pub has_in_cells-requires : goal.has_in_cells-requires
has_in_cells-requires c = let few = c.in-Some.ensures.few in let f0 = few.0 in let f1 = few.1 in record { few = (omega (arith, ints), omega (arith, ints)) }

pub returns-in-Some : goal.returns-in-Some
returns-in-Some c holds =
    clear_of c.args.rows.now.rows c.args.grid.now.entries c.requires.kept c.args.outline.now c.requires.within
    c.args.label.now c.args.band c.args.upto c.args.scale.now c.in-Some.cells c.in-Some.ensures.whole
    (λ there. false≢true (sym (ap not (c.has_in_cells.ensures.1 there)) ∙ holds))

pub returns-in-None : goal.returns-in-None
returns-in-None c holds = absurd (false≢true holds)
