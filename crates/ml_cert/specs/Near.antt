-- What is due to a label, as far as some of the labels before it say.
use Rattle.std.specs.Prelude.{◌≡◌, ℕ, ◌<◌, ◌≤◌, ◌⊎◌, List, Option, Some, MatchOption}
use Rattle.ml_cone.specs.Choice.{Choice, Blocks}
use Rattle.ml_cone.specs.Sound.{AllowsAt}
use Rattle.ml_cone.specs.declared.label.Label.{Label}
use Rattle.ml_cert.specs.declared.stance.Stance.{Stance}
use Rattle.ml_cert.specs.declared.stance.Stance.TheVariants.{Aside, Blocker, Refuser}

-- what the label at j says of the end of the label at i: it allows it and does not block it, or it allows and blocks it; of a refuser nothing is told
abbrev pub IsStance : List Label → Choice → ℕ → ℕ → Stance → Type 0
IsStance labels c i j Aside = j < i → AllowsAt labels c j i × ¬ (Blocks labels c j i)
IsStance labels c i j Blocker = (j < i) × AllowsAt labels c j i × Blocks labels c j i
IsStance labels c i j Refuser = Unit {0}

-- of the labels before i that were seen all allow the label at i its end, and `due` is the first of them that blocks it, if any does
pub record IsDueAmong (labels : List Label) (c : Choice) (i : ℕ) (seen : ℕ → Type 0) (due : Option ℕ) : Type 0 where
  pub allowed : (k : ℕ) → seen k → k < i → AllowsAt labels c k i
  pub first : MatchOption due ((k : ℕ) → seen k → k < i → ¬ (Blocks labels c k i))
      (λ m. (m < i) × Blocks labels c m i × ((k : ℕ) → seen k → k < m → ¬ (Blocks labels c k i)))

-- n is the sooner of what was due and j
abbrev pub IsSooner : Option ℕ → ℕ → ℕ → Type 0
IsSooner due j n = MatchOption due (n ≡ j) (λ m. (n ≤ m) × (n ≤ j) × ((n ≡ m) ⊎ (n ≡ j)))

-- the next is the sooner of what was due and what is due by others
abbrev pub IsSoonest : Option ℕ → Option ℕ → Option ℕ → Type 0
IsSoonest due other next = MatchOption other (next ≡ due) (λ j. (n : ℕ) × (next ≡ Some n) × IsSooner due j n)

-- with the label at j the next is due after `due`
pub record IsDueWith (labels : List Label) (c : Choice) (i j : ℕ) (due next : Option ℕ) : Type 0 where
  pub allowed : j < i → AllowsAt labels c j i
  pub first : ((j < i → ¬ (Blocks labels c j i)) × (next ≡ due)) ⊎ ((j < i) × Blocks labels c j i × ((n : ℕ) × (next ≡ Some n) × IsSooner due j n))
