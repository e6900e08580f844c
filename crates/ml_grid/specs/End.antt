-- A fraction in one number: its numerator above its denominator, which is below 2^17.
use Rattle.std.specs.Prelude.{ℕ, ◌≡◌, ◌+◌, ◌*◌, ◌/◌, ◌%◌, ◌^◌, ◌<◌, ◌≤◌}
use Rattle.std.proofs.Common.{arith}
use Rattle.std.proofs.lemmas.Nat.{div-mul-add, mod-mul-add}
use Rattle.ml_ratio.specs.Lowest.{IsLowest}
use Rattle.ml_ratio.specs.declared.ratio.Ratio.{Ratio}

-- the numerator and the denominator of a fraction
abbrev pub AreTerms : ℕ → ℕ → Type 0
AreTerms n d = (0 < d) × (n ≤ 2 ^ 32) × (d ≤ 2 ^ 16) × IsLowest n d

-- the fraction in a number
abbrev pub unpacked : (parts : ℕ) → AreTerms (parts / 131072) (parts % 131072) → Ratio
unpacked parts are = record {
  num = parts / 131072;
  den = parts % 131072;
  positive = are.0;
  low_num = are.1;
  low_den = are.2;
  lowest = are.3;
}

-- the number of a fraction
abbrev pub packed : Ratio → ℕ
packed r = r.num * 131072 + r.den

pub packed_num : (r : Ratio) → packed r / 131072 ≡ r.num
packed_num r = div-mul-add r.num 131072 r.den (let low : r.den ≤ 2 ^ 16 = r.low_den in omega arith)

pub packed_den : (r : Ratio) → packed r % 131072 ≡ r.den
packed_den r = mod-mul-add r.num 131072 r.den (let low : r.den ≤ 2 ^ 16 = r.low_den in omega arith)

-- has the fraction's terms
pub packed_terms : (r : Ratio) → AreTerms (packed r / 131072) (packed r % 131072)
packed_terms r = rw (packed_num r, packed_den r) (r.positive, r.low_num, r.low_den, r.lowest)
