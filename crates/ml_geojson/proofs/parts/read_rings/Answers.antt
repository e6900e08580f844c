use Rattle.std.proofs.Common.{sym}
use Rattle.ml_ratio.specs.Geometry.{IsRing}
use Rattle.ml_geojson.specs.Shape.{place_of}
use Rattle.ml_geojson.specs.Positions.{in_list, ring}
use Rattle.ml_geojson.proofs.EachLemmas.{parts_next, all_filled}
use Rattle.ml_geojson.proofs.parts.read_rings.Goals as goal

pub loop-item-preserved : goal.loop-item-preserved
loop-item-preserved c = record {
  reads = parts_next place_of (in_list c.args.k (ring c.args.k)) c.args.items.now c.loop-item.item-index c.item-item.result c.loop-item.rings c.push_filled.new.parts
      c.in-Ok.ring _ c.loop-item-test.true (sym c.item-item.is) c.in-Ok.ensures.places c.in_ok-push_filled-in-Ok.ensures c.loop-item.invariant.reads;
  formed = rw c.in_ok-push_filled-in-Ok.ensures (all_filled IsRing c.loop-item.rings c.in-Ok.ring c.loop-item.invariant.formed c.in-Ok.ensures.ring);
}
