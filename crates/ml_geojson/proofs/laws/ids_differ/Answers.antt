use Rattle.ml_geojson.proofs.Differing.{map_differs}
use Rattle.ml_geojson.proofs.laws.ids_differ.Goals as goal

pub returns : goal.returns
returns c = map_differs
