use Rattle.ml_tests_live.proofs.Known.{known}
use Rattle.ml_tests_live.proofs.engine.removal.Goals as goal

pub plan_remove-requires : goal.plan_remove-requires
plan_remove-requires g c = record { live = known c.args.engine.now.rows c.args.id.now c.in-Some._number c.in-Some.ensures }
