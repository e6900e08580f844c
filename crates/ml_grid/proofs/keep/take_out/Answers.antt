use Rattle.ml_grid.proofs.keep.take_out.Goals as goal

pub returns-clause-entries : goal.returns-clause-entries
returns-clause-entries c = rw c.of.ensures at c.remove-there.ensures.members

pub returns-clause-spare : goal.returns-clause-spare
returns-clause-spare c =
    let yes = c.remove-there.ensures.there.1 (rw c.of.ensures c.requires.there) in
    rw yes at c.remove-there.ensures.spare
