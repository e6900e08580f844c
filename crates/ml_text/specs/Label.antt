-- The text of a label.
use Rattle.std.specs.Prelude.{ℕ, nat_le, ◌==◌, ◌||◌, ◌&&◌, Bool, List, map, if◌then◌else◌}
use Rattle.std.specs.Str.{chars, encode_utf8_all}

-- whether a character cannot be shown: U+0000 to U+001F, U+007F to U+009F, U+FFFE and U+FFFF
abbrev pub is_hidden : ℕ → Bool
is_hidden ch = nat_le ch 0x1F || ((nat_le 0x7F ch && nat_le ch 0x9F) || (ch == 0xFFFE || ch == 0xFFFF))

-- the character itself, or a space where it cannot be shown
abbrev pub shown : ℕ → ℕ
shown ch = if is_hidden ch then 0x20 else ch

-- the text of a label: a name with a space for each character that cannot be shown
abbrev pub label_text : List ℕ → List ℕ
label_text name = encode_utf8_all (map shown (chars name))
