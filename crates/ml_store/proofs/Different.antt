-- Lists of different numbers, as one comes or goes.
use Rattle.std.proofs.Common.{◌≢◌, ℕ, ◌<◌, List, length}
use Rattle.std.specs.Prelude.{remove}
use Rattle.std.proofs.lemmas.List.Quantifiers.{all_pairs_remove}
use Rattle.ml_store.specs.Rows.{AreDifferent}

-- different numbers still differ when one of them is taken out
pub different_remove : (xs : List ℕ) (at : ℕ) → at < length xs → AreDifferent xs → AreDifferent (remove xs at)
different_remove xs at lt differ = all_pairs_remove (λ (a : ℕ) (b : ℕ). a ≢ b) xs at lt differ
