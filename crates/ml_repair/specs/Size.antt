use Rattle.std.specs.Prelude.{ℕ, ◌≡◌, ◌≢◌, ◌↔◌, List, length, AllPairs, Contains}

-- n places have the property: some list of this length has just them, each once
pub record IsSize (P : ℕ → Type 0) (n : ℕ) : Type 0 where
  pub places : List ℕ
  pub apart : AllPairs (λ i j. i ≢ j) places
  pub just_them : (i : ℕ) → Contains places i ↔ P i
  pub many : length places ≡ n
