use Rattle.std.proofs.Common.{◌≡◌, ◌++◌, ◌∷◌, ℕ, List, drop}
use Rattle.ml_json.specs.Canonical.{members_on, more_on, AllPairsHaveUtf8}
use Rattle.ml_geojson.specs.Text.{prop_pairs}
use Rattle.ml_geojson.proofs.text.put_props.Given as goal

abbrev pub invariant-loop-prop : goal.invariant-loop-prop
invariant-loop-prop l = record {
  text : (r : List ℕ) →
      l.out.items ++ more_on (prop_pairs (drop l.prop-index l.others)) r ≡ l.fn.out.items ++ 123 ∷ members_on (prop_pairs l.props) r;
  utf8 : AllPairsHaveUtf8 (prop_pairs (drop l.prop-index l.others)) → AllPairsHaveUtf8 (prop_pairs l.props);
}
