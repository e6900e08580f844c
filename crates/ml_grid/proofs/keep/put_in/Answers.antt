use Rattle.ml_grid.proofs.keep.put_in.Goals as goal

pub returns-clause-entries : goal.returns-clause-entries
returns-clause-entries c = rw c.of.ensures at c.insert.ensures.members
