use Rattle.ml_geojson.proofs.Once.{one_feature}
use Rattle.ml_geojson.proofs.laws.one_feature.Goals as goal

pub returns : goal.returns
returns c bytes = one_feature bytes (c.one_tree.ensures bytes)
