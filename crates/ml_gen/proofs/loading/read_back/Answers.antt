use Rattle.std.proofs.Common.{ℕ, List, subst}
use Rattle.ml_geojson.specs.Map.{IsMap}
use Rattle.ml_gen.proofs.loading.read_back.Goals as goal

pub returns-in-Ok-clause-read : goal.returns-in-Ok-clause-read
returns-in-Ok-clause-read c = record {
  text = c.in_ok-text.text;
  text_is = c.in_ok-text.ensures.ok;
  is_map = subst (λ (bytes : List ℕ). IsMap bytes c.in-Ok.read) c.as_slice.ensures c.in-Ok.ensures.ok;
}
