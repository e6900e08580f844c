use Rattle.std.proofs.Common.{codes, refl}
use Rattle.ml_geojson.proofs.TextLemmas.{low_utf8}
use Rattle.ml_geojson.proofs.text.put_collection.Goals as goal

pub returns-clause-utf8 : goal.returns-clause-utf8
returns-clause-utf8 c = (
  low_utf8 (codes "type") refl,
  low_utf8 (codes "FeatureCollection") refl,
  (low_utf8 (codes "features") refl, c.in_ok-put_text.ensures.utf8, tt),
)
