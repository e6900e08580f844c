use Rattle.ml_store.proofs.store.Store.overlapping.Goals as goal

pub returns-clause-whole : goal.returns-clause-whole
returns-clause-whole c = rw (← c.self.view_is) c.find_overlapping.ensures.whole

pub returns-clause-live : goal.returns-clause-live
returns-clause-live c = rw (← c.self.view_is) c.find_overlapping.ensures.live
