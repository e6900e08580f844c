use Rattle.std.proofs.Common.{◌≡◌, drop}
use Rattle.ml_json.specs.Lent.{lents_view}
use Rattle.ml_geojson.specs.Shape.{places_of}
use Rattle.ml_geojson.specs.Positions.{positions}
use Rattle.ml_geojson.proofs.EachLemmas.{behind}
use Rattle.ml_geojson.proofs.positions.read_positions.Given as goal

abbrev pub invariant-loop-item : goal.invariant-loop-item
invariant-loop-item l = positions l.k (lents_view l.items) ≡ behind (places_of l.positions) (positions l.k (lents_view (drop l.item-index l.items)))
