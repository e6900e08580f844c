use Rattle.ml_store.proofs.store.Store.near.Goals as goal

pub returns : goal.returns
returns c = record { ok = rw (← c.self.view_is) c.find_near.ensures.ok }
