-- The line of a change.
use Rattle.std.specs.Prelude.{ℕ, ◌+◌, ◌/◌, ◌%◌, ◌==◌, nat_le, nat_lt, Bool, ◌&&◌, ◌||◌, List, [], ◌∷◌, ◌++◌, flat_map, Option, Some, None, codes, if◌then◌else◌}
use Rattle.ml_ratio.specs.Ratio.{ratio_text}
use Rattle.ml_cone.specs.declared.slot.Span.{Span}
use Rattle.ml_watch.specs.declared.change.Change.{Change}

-- whether a byte lies between two
abbrev pub is_from_to : ℕ → ℕ → ℕ → Bool
is_from_to low high byte = nat_le low byte && nat_le byte high

-- whether a byte is an ASCII letter or digit
abbrev pub is_letter_or_digit : ℕ → Bool
is_letter_or_digit byte = is_from_to 65 90 byte || (is_from_to 97 122 byte || is_from_to 48 57 byte)

-- whether a byte is one of - . _ ~ #
abbrev pub is_mark : ℕ → Bool
is_mark byte = byte == 45 || (byte == 46 || (byte == 95 || (byte == 126 || byte == 35)))

-- whether a byte of an id stands in a line as it is
abbrev pub is_plain : ℕ → Bool
is_plain byte = is_letter_or_digit byte || is_mark byte

-- the upper-case hexadecimal digit of a number below 16
abbrev pub hex_digit : ℕ → ℕ
hex_digit n = if nat_lt n 10 then 48 + n else 55 + n

-- a byte of an id in a line: as it is, or as % and two digits
abbrev pub byte_text : ℕ → List ℕ
byte_text byte = if is_plain byte then byte ∷ [] else (37 ∷ hex_digit (byte / 16) ∷ hex_digit (byte % 16) ∷ [])

-- an id in a line; an empty one is %
abbrev pub id_text : List ℕ → List ℕ
id_text [] = codes "%"
id_text (byte ∷ rest) = flat_map byte_text (byte ∷ rest)

-- a span in a line; a missing one is -
abbrev pub span_text : Option Span → List ℕ
span_text None = codes "-"
span_text (Some span) = ratio_text span.min ++ (codes ".." ++ ratio_text span.until)

-- a span behind a blank
abbrev pub spaced_span : Option Span → List ℕ
spaced_span span = codes " " ++ span_text span

-- the line of a change: id, the span before and the span after
abbrev pub change_line : Change → List ℕ
change_line change = id_text change.id ++ (spaced_span change.before ++ (spaced_span change.after ++ codes "\n"))
