use Rattle.ml_store.proofs.pairs.take_out.Goals as goal

pub returns-clause-spare : goal.returns-clause-spare
returns-clause-spare c =
    let yes = c.remove-there.ensures.there.1 c.requires.there in
    rw yes at c.remove-there.ensures.spare
