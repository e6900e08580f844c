-- A label that is found by its id is there.
use Rattle.std.proofs.Common.{ℕ, List}
use Rattle.ml_store.specs.Rows.{labels_in, HasId, IsNumberOf}
use Rattle.ml_store.specs.declared.row.Row.{Row}
use Rattle.ml_ratio.proofs.lemmas.Lists.{contains_map}

-- where a label with the id is live under a number, some label has the id
pub known : (rows : List Row) (id : List ℕ) (number : ℕ) → IsNumberOf rows id number → HasId (labels_in rows) id
known rows id number is = (is.0.label, contains_map (λ r. r.label) rows is.0 is.1, is.2)
