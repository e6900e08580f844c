use Rattle.std.proofs.Common.{◌≡◌, ◌∙◌, ℕ, List, sym, ap, codes, refl}
use Rattle.ml_json.specs.Tree.{Tree}
use Rattle.ml_ratio.specs.declared.geometry.Geometry.{Geometry}
use Rattle.ml_geojson.specs.Shape.{shape_of}
use Rattle.ml_geojson.specs.Text.{typed_tree, shape_tree}
use Rattle.ml_geojson.proofs.TextLemmas.{line_same, lines_same, polygons_same, same_text, typed_utf8}
use Rattle.ml_geojson.proofs.text.GeometryPutText.put_text.Goals as goal

-- the tree of a geometry of which the kind is known
known : (type : List ℕ) (t u : Tree) (geometry kind : Geometry) → t ≡ u → shape_tree (shape_of kind) ≡ typed_tree type u → geometry ≡ kind →
    typed_tree type t ≡ shape_tree (shape_of geometry)
known type t u geometry kind e shape is = ap (typed_tree type) e ∙ sym shape ∙ sym (ap (λ g. shape_tree (shape_of g)) is)

pub returns-in-Point : goal.returns-in-Point
returns-in-Point c =
    let same = known (codes "Point") _ _ c.args.self.now _ refl refl c.in-Point.is in
    record {
      text =
          same_text c.put_typed.result c.put_typed.new.out.items c.args.out.now.items _ _ same
          c.put_typed.ensures.text;
      utf8 = typed_utf8 c.put_typed.result (codes "Point") _ _ refl same c.put_typed.ensures.utf8;
    }

pub returns-in-MultiPoint : goal.returns-in-MultiPoint
returns-in-MultiPoint c =
    let same = known (codes "MultiPoint") _ _ c.args.self.now _ (line_same c.in-MultiPoint.positions) refl c.in-MultiPoint.is in
    record {
      text =
          same_text c.put_typed-in-MultiPoint.result c.put_typed-in-MultiPoint.new.out.items c.args.out.now.items _ _ same
          c.put_typed-in-MultiPoint.ensures.text;
      utf8 = typed_utf8 c.put_typed-in-MultiPoint.result (codes "MultiPoint") _ _ refl same c.put_typed-in-MultiPoint.ensures.utf8;
    }

pub returns-in-LineString : goal.returns-in-LineString
returns-in-LineString c =
    let same = known (codes "LineString") _ _ c.args.self.now _ (line_same c.in-LineString.line) refl c.in-LineString.is in
    record {
      text =
          same_text c.put_typed-in-LineString.result c.put_typed-in-LineString.new.out.items c.args.out.now.items _ _ same
          c.put_typed-in-LineString.ensures.text;
      utf8 = typed_utf8 c.put_typed-in-LineString.result (codes "LineString") _ _ refl same c.put_typed-in-LineString.ensures.utf8;
    }

pub returns-in-MultiLineString : goal.returns-in-MultiLineString
returns-in-MultiLineString c =
    let same = known (codes "MultiLineString") _ _ c.args.self.now _ (lines_same c.in-MultiLineString.lines) refl c.in-MultiLineString.is in
    record {
      text =
          same_text c.put_typed-in-MultiLineString.result c.put_typed-in-MultiLineString.new.out.items c.args.out.now.items _ _ same
          c.put_typed-in-MultiLineString.ensures.text;
      utf8 = typed_utf8 c.put_typed-in-MultiLineString.result (codes "MultiLineString") _ _ refl same c.put_typed-in-MultiLineString.ensures.utf8;
    }

pub returns-in-Polygon : goal.returns-in-Polygon
returns-in-Polygon c =
    let same = known (codes "Polygon") _ _ c.args.self.now _ (lines_same c.in-Polygon.rings) refl c.in-Polygon.is in
    record {
      text =
          same_text c.put_typed-in-Polygon.result c.put_typed-in-Polygon.new.out.items c.args.out.now.items _ _ same
          c.put_typed-in-Polygon.ensures.text;
      utf8 = typed_utf8 c.put_typed-in-Polygon.result (codes "Polygon") _ _ refl same c.put_typed-in-Polygon.ensures.utf8;
    }

pub returns-in-MultiPolygon : goal.returns-in-MultiPolygon
returns-in-MultiPolygon c =
    let same = known (codes "MultiPolygon") _ _ c.args.self.now _ (polygons_same c.in-MultiPolygon.polygons) refl c.in-MultiPolygon.is in
    record {
      text =
          same_text c.put_typed-in-MultiPolygon.result c.put_typed-in-MultiPolygon.new.out.items c.args.out.now.items _ _ same
          c.put_typed-in-MultiPolygon.ensures.text;
      utf8 = typed_utf8 c.put_typed-in-MultiPolygon.result (codes "MultiPolygon") _ _ refl same c.put_typed-in-MultiPolygon.ensures.utf8;
    }
