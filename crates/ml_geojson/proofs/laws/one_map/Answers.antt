use Rattle.ml_geojson.proofs.Once.{one_map}
use Rattle.ml_geojson.proofs.laws.one_map.Goals as goal

pub returns : goal.returns
returns c bytes = one_map bytes (c.one_tree.ensures bytes)
