use Rattle.std.proofs.Common.{subst}
use Rattle.ml_geojson.specs.Taken.{Takes}
use Rattle.ml_geojson.proofs.MadeLemmas.{inserted}
use Rattle.ml_geojson.proofs.ids.take_fresh.Goals as goal

pub returns-clause-taken : goal.returns-clause-taken
returns-clause-taken c = subst (Takes c.args.taken.now c.insert.new.self) c.in_ok-copy.ensures (inserted c.args.taken.now c.insert.new.self _ c.in_ok-insert.ensures.updates)
