use Rattle.std.proofs.Common.{◌≡◌, sym, ap, subst, ◌∙◌}
use Rattle.std.specs.Prelude.{codes}
use Rattle.ml_json.specs.Lent.{lent_pairs_view}
use Rattle.ml_ratio.specs.Feature.{HaveScalars, AreAscending}
use Rattle.ml_geojson.specs.Members.{member}
use Rattle.ml_geojson.specs.Properties.{properties}
use Rattle.ml_geojson.proofs.PropLemmas.{props_numbers, props_ascend}
use Rattle.ml_geojson.proofs.features.draft_of.Goals as goal

pub invariant_of-result : goal.invariant_of-result
invariant_of-result c =
    let ps = lent_pairs_view c.args.pairs.now in
    let same : c.in_ok-props-in-Ok.props ≡ properties (member (codes "properties") ps) = c.in_ok-props-in-Ok.ensures ∙ ap properties c.member-in-Ok-2.ensures in
    record {
      shaped = c.in-Ok.ensures.formed;
      scalars = subst HaveScalars (sym same) (props_numbers (codes "properties") ps c.requires);
      ascending = subst AreAscending (sym same) (props_ascend (codes "properties") ps c.requires);
    }
