use Rattle.std.proofs.Common.{codes, refl, ap, ◌∙◌, [], ◌∷◌, ◌++◌}
use Rattle.ml_json.specs.Canonical.{tree_on, string_on, members_on}
use Rattle.ml_geojson.specs.Shape.{some_shape_of}
use Rattle.ml_geojson.specs.Text.{geometry_tree, prop_pairs}
use Rattle.ml_geojson.proofs.TextLemmas.{behind, low_utf8}
use Rattle.ml_geojson.proofs.text.FeaturePutText.put_text.Goals as goal

pub returns-clause-text : goal.returns-clause-text
returns-clause-text c = λ r.
    let f = c.args.self.now in
    let written = c.extend_from_slice-3.new.self.items in
    let from_props = 123 ∷ members_on (prop_pairs f.props) (125 ∷ r) in
    let from_comma = codes ",\"properties\":" ++ from_props in
    let geometry = tree_on (geometry_tree (some_shape_of f.geometry)) from_comma in
    let from_geometry = codes ",\"geometry\":" ++ geometry in
    behind _ _ (125 ∷ []) r c.in_ok-push.ensures.items
    ∙ c.in_ok-put_props.ensures.text (125 ∷ r) ∙ ap (λ ps. written ++ 123 ∷ members_on (prop_pairs ps) (125 ∷ r)) c.as_slice.ensures
    ∙ behind _ _ _ from_props c.in_ok-extend_from_slice-3.ensures.items ∙ c.in_ok-put_geometry.ensures.text from_comma
    ∙ behind _ _ _ geometry c.in_ok-extend_from_slice-2.ensures.items ∙ c.in_ok-put_string.ensures.text from_geometry
    ∙ behind _ _ _ (string_on f.id from_geometry) c.in_ok-extend_from_slice.ensures.items

pub returns-clause-utf8 : goal.returns-clause-utf8
returns-clause-utf8 c =
    let props = rw c.as_slice.ensures at c.in_ok-put_props.ensures.utf8 in (
      low_utf8 (codes "type") refl,
      low_utf8 (codes "Feature") refl,
      (
        low_utf8 (codes "id") refl,
        c.in_ok-put_string.ensures.utf8,
        (low_utf8 (codes "geometry") refl, c.in_ok-put_geometry.ensures.utf8, (low_utf8 (codes "properties") refl, props, tt)),
      ),
    )
