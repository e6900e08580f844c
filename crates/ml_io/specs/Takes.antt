-- Lists that may be told, from whose front something goes. (What comes to the end of such a list is `Appends`.)
use Rattle.std.specs.Prelude.{◌≡◌, ℕ, List, [], ◌∷◌, ◌++◌, Option, Some, None}

-- where the list is told before, it is told after, and these items stood at its front and have left it
abbrev pub Takes : {A : Type 0} → Option (List A) → Option (List A) → List A → Type 0
Takes None new items = new ≡ None
Takes {A} (Some all) new items = (rest : List A) × (new ≡ Some rest) × (all ≡ items ++ rest)

-- where the list is told, nothing is left of it
abbrev pub IsUsedUp : {A : Type 0} → Option (List A) → Type 0
IsUsedUp None = Unit {0}
IsUsedUp (Some left) = left ≡ []

-- the same of the bytes of a source; one that does not tell its bytes tells that nothing is left, once it has said so
abbrev pub Draws : Option (List ℕ) → Option (List ℕ) → List ℕ → Type 0
Draws None new bytes = IsUsedUp new
Draws (Some all) new bytes = (rest : List ℕ) × (new ≡ Some rest) × (all ≡ bytes ++ rest)

-- the list is told, and nothing is left of it
abbrev pub HasRunOut : {A : Type 0} → Option (List A) → Type 0
HasRunOut None = ⊥
HasRunOut (Some left) = left ≡ []

-- what is given next: the first of the list, or nothing, and this only where the list has run out
abbrev pub GivesNext : {A : Type 0} → Option (List A) → Option (List A) → Option A → Type 0
GivesNext old new None = HasRunOut old × (new ≡ old)
GivesNext old new (Some item) = Takes old new (item ∷ [])
