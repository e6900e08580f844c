-- The bands that fractions lie in.
use Rattle.std.proofs.Common.{ℕ, ◌≡◌, zero, suc, ◌+◌, ◌*◌, ◌^◌, ◌<◌, ◌≤◌, arith, inl, inr}
use Rattle.std.proofs.lemmas.Bool.{cases_lt}
use Rattle.ml_ratio.specs.Fraction.{Fraction}
use Rattle.ml_ratio.specs.Band.{IsInBand}

-- a fraction below 2^(j+1) lies in a band up to j
pub has_band : (s : Fraction) (j : ℕ) → s.num < 2 ^ (j + 1) * s.den → (k : ℕ) × (k ≤ j) × IsInBand s k
has_band s zero h = (0, omega arith, record { from = λ p. absurd (omega arith); below = h })
has_band s (suc j) h =
    elim (cases_lt s.num (2 ^ (j + 1) * s.den)) [
      | inl less ↦ let found = has_band s j less in (found.0, (let p = found.1 in omega arith), found.2)
      | inr more ↦ (suc j, omega arith, record { from = λ _. (let e : suc j ≡ j + 1 = omega arith in rw e more); below = h })
    ]
