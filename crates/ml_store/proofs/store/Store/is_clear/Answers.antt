use Rattle.ml_store.proofs.store.Store.is_clear.Goals as goal

pub returns : goal.returns
returns c = rw (← c.self.view_is) c.is_clear.ensures
