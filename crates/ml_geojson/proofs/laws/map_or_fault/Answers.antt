use Rattle.ml_geojson.proofs.Once.{map_or_fault}
use Rattle.ml_geojson.proofs.laws.map_or_fault.Goals as goal

pub returns : goal.returns
returns c bytes = map_or_fault bytes (c.one_tree.ensures bytes) (c.text_or_fault.ensures bytes)
