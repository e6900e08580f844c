use Rattle.std.proofs.Common.{◌≡◌, drop}
use Rattle.std.specs.Prelude.{All}
use Rattle.ml_ratio.specs.Geometry.{HasParts}
use Rattle.ml_json.specs.Lent.{lents_view}
use Rattle.ml_geojson.specs.Shape.{lines_of}
use Rattle.ml_geojson.specs.Positions.{line_parts}
use Rattle.ml_geojson.proofs.EachLemmas.{behind}
use Rattle.ml_geojson.proofs.parts.read_lines.Given as goal

abbrev pub invariant-loop-item : goal.invariant-loop-item
invariant-loop-item l = record {
  reads : line_parts l.k (lents_view l.items) ≡ behind (lines_of l.lines) (line_parts l.k (lents_view (drop l.item-index l.items)));
  formed : All HasParts l.lines;
}
