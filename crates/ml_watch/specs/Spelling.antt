-- How a line spells an id, read back.
use Rattle.std.specs.Prelude.{◌≡◌, ℕ, ◌+◌, ◌-◌, ◌*◌, ◌==◌, List, [], ◌∷◌, IsUtf8, if◌then◌else◌}
use Rattle.ml_watch.specs.Line.{is_from_to, id_text}

-- the text spells the id as a line does
pub record Spells (text id : List ℕ) : Type 0 where
  pub is_text : IsUtf8 id
  pub spelled : id_text id ≡ text

-- the value of an upper-case hexadecimal digit; 0 for any other byte
abbrev pub hex_value : ℕ → ℕ
hex_value digit = if is_from_to 48 57 digit then digit - 48 else if is_from_to 65 70 digit then digit - 55 else 0

-- the bytes that a text spells, where each stands as it is or as % and two digits
abbrev pub bytes_spelled : List ℕ → List ℕ
bytes_spelled [] = []
bytes_spelled (byte ∷ []) = byte ∷ []
bytes_spelled (byte ∷ next ∷ []) = byte ∷ next ∷ []
bytes_spelled (byte ∷ high ∷ low ∷ rest) =
    if byte == 37 then (hex_value high * 16 + hex_value low) ∷ bytes_spelled rest else (byte ∷ bytes_spelled (high ∷ low ∷ rest))

-- the bytes that a text spells; a lone % spells none
abbrev pub spelled : List ℕ → List ℕ
spelled [] = []
spelled (byte ∷ []) = if byte == 37 then [] else (byte ∷ [])
spelled (byte ∷ next ∷ rest) = bytes_spelled (byte ∷ next ∷ rest)
