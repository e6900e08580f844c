-- The ids that features get.
use Rattle.std.specs.Prelude.{◌≡◌, ℕ, ◌<◌, List, ◌++◌, Bool, true, false, Option, Some, None, codes}
use Rattle.std.specs.List.{repeat, list_any}
use Rattle.std.specs.Str.{bytes_eq}
use Rattle.std.specs.Fmt.{decimal}

-- whether the text is one of the ids
abbrev pub is_among : List (List ℕ) → List ℕ → Bool
is_among ids text = list_any (bytes_eq text) ids

-- a number sign and the place
abbrev pub numbered : ℕ → List ℕ
numbered k = codes "#" ++ decimal k

-- n further number signs before it
abbrev pub marked : ℕ → ℕ → List ℕ
marked n k = repeat n (codes "#") ++ numbered k

-- the id is a number sign and the place k, with as few further number signs before it as make it new among the ids taken
pub record IsFresh (taken : List ℕ → Bool) (k : ℕ) (id : List ℕ) : Type 0 where
  pub signs : ℕ
  pub written : id ≡ marked signs k
  pub new : taken id ≡ false
  pub fewest : (n : ℕ) → n < signs → taken (marked n k) ≡ true

-- its own id where it is new, and a fresh one where it is taken
pub record IsOwnOrFresh (taken : List ℕ → Bool) (k : ℕ) (own id : List ℕ) : Type 0 where
  pub new : taken own ≡ false → id ≡ own
  pub known : taken own ≡ true → IsFresh taken k id

-- the id that the feature at place k gets
abbrev pub IsIdOf : (List ℕ → Bool) → ℕ → Option (List ℕ) → List ℕ → Type 0
IsIdOf taken k None id = IsFresh taken k id
IsIdOf taken k (Some own) id = IsOwnOrFresh taken k own id
