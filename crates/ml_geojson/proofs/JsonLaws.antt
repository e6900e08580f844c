-- What the proofs here cite of JSON texts, as the laws of them say it.
use Rattle.std.proofs.Common.{◌≡◌, List, ℕ, ℤ}
use Rattle.ml_json.specs.Tree.{Pairs, no_pairs, put_all}
use Rattle.ml_json.specs.Canonical.{IsAscending}
use Rattle.ml_json.specs.Fixed.{e7_text, ReadsBack}
use Rattle.ml_ratio.specs.JsonNumber.{IsNumber}
use Rattle.ml_ratio.specs.World.{IsInWorld}

pub record JsonLaws : Type 0 where
  pub back : (v : ℤ) → ReadsBack v (e7_text v)
  pub number : (v : ℤ) → IsInWorld v → IsNumber (e7_text v)
  pub known : (text : List ℕ) → ∥ IsNumber text ∥₁ → IsNumber text
  pub ascending : (ps : Pairs) → IsAscending ps → put_all no_pairs ps ≡ ps
