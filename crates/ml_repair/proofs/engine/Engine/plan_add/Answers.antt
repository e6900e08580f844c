use Rattle.ml_repair.proofs.engine.Engine.plan_add.Goals as goal

pub plan_in-requires-clause-new_id : goal.plan_in-requires-clause-new_id
plan_in-requires-clause-new_id g c = rw (← c.self.view_is) at c.requires.new_id
