-- A string as it is written, and the text that it stands for.
use Rattle.std.specs.Prelude.{◌≡◌, ℕ, suc, ◌+◌, ◌-◌, ◌*◌, List, [], ◌∷◌, ◌++◌, Bool, true, false, nat_lt, nat_le, ◌==◌, ◌&&◌, Option, Some, None, if◌then◌else◌}
use Rattle.std.specs.Char.{encode_utf8}
use Rattle.ml_json.specs.Characters.{Tail, lead, Follows}
use Rattle.ml_ratio.specs.JsonNumber.{is_between, is_digit}

-- a piece of a string: a character's bytes, or a 16-bit unit that was written as \u and four digits
pub data Piece : Type 0 where
  char : List ℕ → Piece
  unit : ℕ → Piece

-- the character that a byte behind a backslash stands for
abbrev pub escaped : ℕ → Option ℕ
escaped b =
    if b == 34 then Some 34
    else (if b == 92 then Some 92
    else (if b == 47 then Some 47
    else (if b == 98 then Some 8
    else (if b == 102 then Some 12
    else (if b == 110 then Some 10
    else (if b == 114 then Some 13
    else (if b == 116 then Some 9 else None)))))))

-- the value of a hexadecimal digit
abbrev pub hex_digit : ℕ → Option ℕ
hex_digit b =
    if is_digit b then Some (b - 48)
    else (if is_between 65 70 b then Some (b - 55)
    else (if is_between 97 102 b then Some (b - 87) else None))

-- whether an ASCII byte stands for itself in a string: no control character, no quote, no backslash
abbrev pub is_plain : ℕ → Bool
is_plain b = nat_le 32 b && (nat_lt b 128 && (if b == 34 then false
    else (if b == 92 then false else true)))

-- so many more hexadecimal digits behind the number so far make the unit
pub data Hex : ℕ → ℕ → ℕ → List ℕ → List ℕ → Type 0 where
  no_hex : {a : ℕ} {r : List ℕ} → Hex 0 a a r r
  hex : {n a b d u : ℕ} {s r : List ℕ} → hex_digit b ≡ Some d → Hex n (16 * a + d) u s r → Hex (suc n) a u (b ∷ s) r

-- the bytes behind an opening quote begin with these pieces and a closing quote, and the rest follows
pub data Written : List Piece → List ℕ → List ℕ → Type 0 where
  quote : {r : List ℕ} → Written [] (34 ∷ r) r
  plain : {b : ℕ} {us : List Piece} {s r : List ℕ} → is_plain b ≡ true → Written us s r → Written (char (b ∷ []) ∷ us) (b ∷ s) r
  longer : {a : ℕ} {t : Tail} {bs : List ℕ} {us : List Piece} {s x r : List ℕ} → lead a ≡ Some t → Follows (Some t) bs → x ≡ bs ++ s → Written us s r → Written (char (a ∷ bs) ∷ us) (a ∷ x) r
  short : {e b : ℕ} {us : List Piece} {s r : List ℕ} → escaped e ≡ Some b → Written us s r → Written (char (b ∷ []) ∷ us) (92 ∷ e ∷ s) r
  code : {u : ℕ} {us : List Piece} {x s r : List ℕ} → Hex 4 0 u x s → Written us s r → Written (unit u ∷ us) (92 ∷ 117 ∷ x) r

-- the first half of a surrogate pair
abbrev pub is_high : ℕ → Bool
is_high u = is_between 0xD800 0xDBFF u

-- the second half of a surrogate pair
abbrev pub is_low : ℕ → Bool
is_low u = is_between 0xDC00 0xDFFF u

-- U+FFFD, which stands for half a pair
abbrev pub replacement : List ℕ
replacement = 0xEF ∷ 0xBF ∷ 0xBD ∷ []

-- the text of a unit that is no first half
abbrev pub single : ℕ → List ℕ
single u = if is_low u then replacement else encode_utf8 u

-- the character of a surrogate pair
abbrev pub both : ℕ → ℕ → List ℕ
both h l = encode_utf8 (0x10000 + ((h - 0xD800) * 1024 + (l - 0xDC00)))

-- the text of a first half that no second half follows
abbrev pub lone : Option ℕ → List ℕ
lone None = []
lone (Some h) = replacement

-- the text of the pieces, where a first half stands just before them or not
abbrev pub text_of : Option ℕ → List Piece → List ℕ
text_of p [] = lone p
text_of p (char bs ∷ us) = lone p ++ (bs ++ text_of None us)
text_of None (unit u ∷ us) = if is_high u then text_of (Some u) us else (single u ++ text_of None us)
text_of (Some h) (unit u ∷ us) =
    if is_high u then replacement ++ text_of (Some u) us
    else (if is_low u then both h u ++ text_of None us else (replacement ++ (single u ++ text_of None us)))
