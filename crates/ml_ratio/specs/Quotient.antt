use Rattle.std.specs.Prelude.{ℕ, ◌^◌, ◌<◌, ◌≤◌}
use Rattle.ml_ratio.specs.Fraction.{Fraction}
use Rattle.ml_ratio.specs.declared.quotient.Quotient.{Quotient}

-- the fraction that a quotient stands for
abbrev pub worth : Quotient → Fraction
worth q = record { num = q.num; den = q.den; positive = q.positive }

-- the numerator is below 2^32, and the denominator at most 1152
abbrev pub AreLowParts : ℕ → ℕ → Type 0
AreLowParts num den = (num < 2 ^ 32) × (den ≤ 1152)

-- the quotient has a numerator below 2^32 and a denominator of at most 1152
abbrev pub IsLow : Quotient → Type 0
IsLow q = AreLowParts q.num q.den
