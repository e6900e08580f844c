use Rattle.std.proofs.Common.{subst}
use Rattle.ml_geojson.specs.Taken.{Takes}
use Rattle.ml_geojson.proofs.MadeLemmas.{inserted}
use Rattle.ml_geojson.proofs.ids.take_own.Goals as goal

pub returns-then-branch-clause-taken : goal.returns-then-branch-clause-taken
returns-then-branch-clause-taken c = subst (Takes c.args.taken.now c.insert.new.self) c.in_ok-copy.ensures (inserted c.args.taken.now c.insert.new.self _ c.in_ok-insert.ensures.updates)
