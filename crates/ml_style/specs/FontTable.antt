-- A font from the TOML table that writes it.
use Rattle.std.specs.Prelude.{◌≡◌, ℕ, Bool, true, false, ◌&&◌, List, [], ◌∷◌, map, Option, Some, None, is_some, option_and_then, codes}
use Rattle.std.specs.Option.{option_map}
use Rattle.std.specs.Str.{chars}
use Rattle.toml.specs.Data.{Data, table, Members, no_members, member, get_member, as_integer}
use Rattle.ml_style.specs.Toml.{count_at, bounded}
use Rattle.ml_style.specs.declared.advance.Advance.{Advance}
use Rattle.ml_style.specs.declared.font.Font.{Font}

-- the element of a list of one
abbrev pub only : List ℕ → Option ℕ
only (c ∷ []) = Some c
only _ = None

-- the character that a text of one character is
abbrev pub only_char : List ℕ → Option ℕ
only_char text = only (chars text)

-- the units of a font: 1 to 65535
abbrev pub units_in : Members → Option ℕ
units_in font = count_at (codes "units") 1 65535 font

-- the advance of a character that has none of its own: 0 to 65535
abbrev pub fallback_in : Members → Option ℕ
fallback_in font = count_at (codes "default") 0 65535 font

-- a character with its advance, 0 to 65535
abbrev pub advance_in : List ℕ → Data → Option (ℕ × ℕ)
advance_in key width = option_and_then (λ ch. option_map (λ w. (ch, w)) (option_and_then (bounded 0 65535) (as_integer width))) (only_char key)

-- an element before others, where both are there
abbrev pub before : {X : Type 0} → Option X → Option (List X) → Option (List X)
before first rest = option_and_then (λ x. option_map (λ xs. x ∷ xs) rest) first

-- the advances of a table of them, if each is one
abbrev pub advances_of : Members → Option (List (ℕ × ℕ))
advances_of no_members = Some []
advances_of (member key width rest) = before (advance_in key width) (advances_of rest)

-- the advances of what stands for them in a font: none where nothing does
abbrev pub advances_from : Option Data → Option (List (ℕ × ℕ))
advances_from None = Some []
advances_from (Some (table advances)) = advances_of advances
advances_from (Some _) = None

-- the advances of a font, of which there need be none
abbrev pub advances_in : Members → Option (List (ℕ × ℕ))
advances_in font = advances_from (get_member (codes "advances") font)

-- whether a value is a font: a table of its units, its default and its advances
abbrev pub is_font : Data → Bool
is_font (table font) = is_some (units_in font) && (is_some (fallback_in font) && is_some (advances_in font))
is_font _ = false

-- an advance as a pair
abbrev pub pair_of : Advance → ℕ × ℕ
pair_of advance = (advance.ch, advance.width)

-- the font that a table of it writes
pub record IsFontIn (table : Members) (font : Font) : Type 0 where
  pub units : units_in table ≡ Some font.units
  pub fallback : fallback_in table ≡ Some font.fallback
  pub advances : advances_in table ≡ Some (map pair_of font.advances)

-- the font that a value writes
abbrev pub IsFontOf : Data → Font → Type 0
IsFontOf (table fields) font = IsFontIn fields font
IsFontOf _ font = ⊥

-- a font where the value is one, and none where it is not
abbrev pub IsFontFound : Data → Option Font → Type 0
IsFontFound value None = is_font value ≡ false
IsFontFound value (Some font) = (is_font value ≡ true) × IsFontOf value font
