-- The first of the greatest.
use Rattle.std.specs.Prelude.{ℕ, ◌<◌, ℤ, ◌≤ℤ◌, ◌<ℤ◌}

-- of the places below n, i is the first at which f is greatest
pub record IsFirstGreatest (f : ℕ → ℤ) (n i : ℕ) : Type 0 where
  pub there : i < n
  pub greatest : (k : ℕ) → k < n → f k ≤ℤ f i
  pub first : (k : ℕ) → k < i → f k <ℤ f i
