use Rattle.ml_repair.proofs.Answered.{if_ok}
use Rattle.ml_repair.proofs.Reading.{live_all}
use Rattle.ml_repair.proofs.engine.Engine.in_order.Goals as goal

pub returns-clause-numbers : goal.returns-clause-numbers
returns-clause-numbers c = rw (← c.self.view_is) c.all_numbers.ensures

pub returns-clause-live : goal.returns-clause-live
returns-clause-live c = rw (← c.self.view_is) (if_ok c.all_numbers.result _ _ (λ numbers e. live_all c.self.inside.store.rows numbers e) c.all_numbers.ensures)
