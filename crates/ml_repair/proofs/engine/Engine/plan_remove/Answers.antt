use Rattle.ml_repair.proofs.engine.Engine.plan_remove.Goals as goal

pub plan_out-requires-clause-live : goal.plan_out-requires-clause-live
plan_out-requires-clause-live g c = rw (← c.self.view_is) at c.requires.live
