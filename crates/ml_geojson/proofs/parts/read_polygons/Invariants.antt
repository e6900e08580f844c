use Rattle.std.proofs.Common.{◌≡◌, drop}
use Rattle.std.specs.Prelude.{All}
use Rattle.ml_ratio.specs.Geometry.{IsPolygon}
use Rattle.ml_json.specs.Lent.{lents_view}
use Rattle.ml_geojson.specs.Shape.{polygons_of}
use Rattle.ml_geojson.specs.Positions.{polygon_parts}
use Rattle.ml_geojson.proofs.EachLemmas.{behind}
use Rattle.ml_geojson.proofs.parts.read_polygons.Given as goal

abbrev pub invariant-loop-item : goal.invariant-loop-item
invariant-loop-item l = record {
  reads : polygon_parts l.k (lents_view l.items) ≡ behind (polygons_of l.polygons) (polygon_parts l.k (lents_view (drop l.item-index l.items)));
  formed : All IsPolygon l.polygons;
}
