use Rattle.std.proofs.Common.{drop}
use Rattle.ml_json.specs.Lent.{lents_view}
use Rattle.ml_geojson.specs.Collection.{features}
use Rattle.ml_geojson.proofs.MadeLemmas.{ReadSoFar}
use Rattle.ml_geojson.proofs.reader.read_items.Given as goal

abbrev pub invariant-loop-k : goal.invariant-loop-k
invariant-loop-k l = ReadSoFar (features 0 (lents_view l.items)) (features l.k (lents_view (drop l.k l.items))) l.k l.features l.taken
