-- The ids that are taken, as a set.
use Rattle.std.specs.Prelude.{◌≡◌, ℕ, List, Bool, ◌||◌}
use Rattle.std.specs.Str.{bytes_eq}
use Rattle.std.specs.HashSet.{HashSet, contains_by}
use Rattle.ml_geojson.specs.Ids.{is_among}

module _ {S : Type 0} where
  -- whether the set has the text
  abbrev pub is_taken : HashSet (List ℕ) S → List ℕ → Bool
  is_taken set text = contains_by (bytes_eq text) set

  -- the set has these ids, and no other text
  abbrev pub HasIds : List (List ℕ) → HashSet (List ℕ) S → Type 0
  HasIds ids set = (text : List ℕ) → is_taken set text ≡ is_among ids text

  -- a set has this text besides those of another, and no other one
  abbrev pub Takes : HashSet (List ℕ) S → HashSet (List ℕ) S → List ℕ → Type 0
  Takes old new id = (text : List ℕ) → is_taken new text ≡ (bytes_eq text id || is_taken old text)
