use Rattle.ml_repair.proofs.engine.Engine.shown.Goals as goal

pub returns-clause-looks : goal.returns-clause-looks
returns-clause-looks g c = rw (← c.self.view_is) c.shown_numbers.ensures.looks
