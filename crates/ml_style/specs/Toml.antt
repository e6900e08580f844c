-- What stands in a TOML text at a key.
use Rattle.std.specs.Prelude.{◌≡◌, ℕ, ℤ, pos, negsuc, nat_le, Bool, ◌&&◌, List, Option, Some, None, is_none, IsUtf8, option_and_then, if◌then◌else◌}
use Rattle.toml.specs.Data.{Members, get_member, as_integer, as_str}
use Rattle.toml.specs.Parse.{parse_document}

-- the bytes are UTF-8 and the TOML text of this table
abbrev pub ReadsToml : List ℕ → Members → Type 0
ReadsToml bytes table = IsUtf8 bytes × (parse_document bytes ≡ Some table)

-- the bytes are no TOML text
abbrev pub IsNoToml : List ℕ → Type 0
IsNoToml bytes = (table : Members) → ¬ (ReadsToml bytes table)

-- whether nothing stands at the key
abbrev pub is_absent : List ℕ → Members → Bool
is_absent key table = is_none (get_member key table)

-- the text at the key
abbrev pub text_at : List ℕ → Members → Option (List ℕ)
text_at key table = option_and_then as_str (get_member key table)

-- the whole number at the key
abbrev pub whole_at : List ℕ → Members → Option ℤ
whole_at key table = option_and_then as_integer (get_member key table)

-- a whole number that lies between two bounds, which belong to it
abbrev pub bounded : ℕ → ℕ → ℤ → Option ℕ
bounded least most (pos n) = if nat_le least n && nat_le n most then Some n else None
bounded least most (negsuc n) = None

-- the whole number at the key, where it lies between two bounds
abbrev pub count_at : List ℕ → ℕ → ℕ → Members → Option ℕ
count_at key least most table = option_and_then (bounded least most) (whole_at key table)
