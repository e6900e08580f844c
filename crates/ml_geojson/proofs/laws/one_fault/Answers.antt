use Rattle.ml_geojson.proofs.OneFault.{one_map_fault, one_feature_fault}
use Rattle.ml_geojson.proofs.laws.one_fault.Goals as goal

pub returns-clause-map : goal.returns-clause-map
returns-clause-map c bytes = one_map_fault bytes (c.one_tree.ensures bytes) (c.text_or_fault.ensures bytes) (c.one_fault.ensures bytes)

pub returns-clause-feature : goal.returns-clause-feature
returns-clause-feature c bytes = one_feature_fault bytes (c.one_tree.ensures bytes) (c.text_or_fault.ensures bytes) (c.one_fault.ensures bytes)
