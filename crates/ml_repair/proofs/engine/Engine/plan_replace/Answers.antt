use Rattle.ml_repair.proofs.engine.Engine.plan_replace.Goals as goal

pub plan_instead-requires-clause-live : goal.plan_instead-requires-clause-live
plan_instead-requires-clause-live g c = rw (← c.self.view_is) at c.requires.live
