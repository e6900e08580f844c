use Rattle.ml_store.proofs.store.Store.seen.Goals as goal

pub find_seen-requires-clause-ends : goal.find_seen-requires-clause-ends
find_seen-requires-clause-ends g c = rw (← c.self.view_is) at c.requires
