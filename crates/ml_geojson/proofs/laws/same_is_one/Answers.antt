use Rattle.ml_geojson.proofs.SameFeature.{same_is_one}
use Rattle.ml_geojson.proofs.laws.same_is_one.Goals as goal

pub returns : goal.returns
returns c = same_is_one
