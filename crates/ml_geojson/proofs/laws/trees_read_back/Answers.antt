use Rattle.std.proofs.Common.{arith}
use Rattle.ml_geojson.specs.Text.{feature_tree, collection_tree}
use Rattle.ml_geojson.proofs.JsonLaws.{JsonLaws}
use Rattle.ml_geojson.proofs.Printable.{printable, feature_flat, collection_flat}
use Rattle.ml_geojson.proofs.ReadsBack.{feature_back, collection_back}
use Rattle.ml_geojson.proofs.laws.trees_read_back.Goals as goal

pub returns : goal.returns
returns c =
    let laws : JsonLaws =
    record { back = c.coordinates_read_back.ensures; number = c.coordinates_are_numbers.ensures; known = c.known_numbers.ensures; ascending = c.ascending_members_stay.ensures } in
    record {
      feature_prints = λ f. printable 6 (feature_tree f) (omega arith) (feature_flat laws f);
      feature_reads = feature_back laws 0;
      collection_prints = λ fs. printable 8 (collection_tree fs) (omega arith) (collection_flat laws fs);
      collection_reads = collection_back laws;
    }
