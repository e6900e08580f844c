use Rattle.ml_geojson.proofs.Once.{feature_or_fault}
use Rattle.ml_geojson.proofs.laws.feature_or_fault.Goals as goal

pub returns : goal.returns
returns c bytes = feature_or_fault bytes (c.one_tree.ensures bytes) (c.text_or_fault.ensures bytes)
