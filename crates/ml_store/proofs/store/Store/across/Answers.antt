use Rattle.ml_store.proofs.store.Store.across.Goals as goal

pub returns-clause-whole : goal.returns-clause-whole
returns-clause-whole c = rw (← c.self.view_is) c.find_across.ensures.whole
