use Rattle.std.proofs.Common.{◌≡◌, ◌++◌, drop}
use Rattle.ml_json.specs.Lent.{lent_pairs_view}
use Rattle.ml_geojson.specs.Properties.{scalars}
use Rattle.ml_geojson.proofs.properties.read_scalars.Given as goal

abbrev pub invariant-loop-pair : goal.invariant-loop-pair
invariant-loop-pair l = scalars (lent_pairs_view l.pairs) ≡ l.props ++ scalars (lent_pairs_view (drop l.pair-index l.pairs))
