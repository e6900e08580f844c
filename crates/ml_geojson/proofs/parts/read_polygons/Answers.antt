use Rattle.std.proofs.Common.{sym}
use Rattle.ml_ratio.specs.Geometry.{IsPolygon}
use Rattle.ml_geojson.specs.Shape.{places_of}
use Rattle.ml_geojson.specs.Positions.{in_list, rings}
use Rattle.ml_geojson.proofs.EachLemmas.{parts_next, all_filled}
use Rattle.ml_geojson.proofs.parts.read_polygons.Goals as goal

pub loop-item-preserved : goal.loop-item-preserved
loop-item-preserved c = record {
  reads = parts_next places_of (in_list c.args.k (rings c.args.k)) c.args.items.now c.loop-item.item-index c.item-item.result c.loop-item.polygons c.push_filled.new.parts
      c.in-Ok.polygon _ c.loop-item-test.true (sym c.item-item.is) c.in-Ok.ensures.lines c.in_ok-push_filled-in-Ok.ensures c.loop-item.invariant.reads;
  formed = rw c.in_ok-push_filled-in-Ok.ensures (all_filled IsPolygon c.loop-item.polygons c.in-Ok.polygon c.loop-item.invariant.formed (λ some. (some, c.in-Ok.ensures.rings)));
}
