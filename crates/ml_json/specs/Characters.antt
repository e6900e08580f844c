-- Characters of more than one byte in UTF-8, by the table of RFC 3629.
use Rattle.ml_ratio.specs.JsonNumber.{is_between}
use Rattle.std.specs.Prelude.{◌≡◌, ℕ, List, [], ◌∷◌, true, ◌==◌, Option, Some, None, if◌then◌else◌}

-- what a character still wants: so many bytes, of which the first behind E0, ED, F0 and F4 has narrower bounds
pub data Tail : Type 0 where
  one : Tail
  two : Tail
  three : Tail
  after_e0 : Tail
  after_ed : Tail
  after_f0 : Tail
  after_f4 : Tail

-- what follows a first byte
abbrev pub lead : ℕ → Option Tail
lead b =
    if is_between 194 223 b then Some one
    else (if b == 224 then Some after_e0
    else (if b == 237 then Some after_ed
    else (if is_between 225 239 b then Some two
    else (if b == 240 then Some after_f0
    else (if b == 244 then Some after_f4
    else (if is_between 241 243 b then Some three else None))))))

-- the least next byte
abbrev pub low : Tail → ℕ
low one = 128
low two = 128
low three = 128
low after_e0 = 160
low after_ed = 128
low after_f0 = 144
low after_f4 = 128

-- the greatest next byte
abbrev pub high : Tail → ℕ
high one = 191
high two = 191
high three = 191
high after_e0 = 191
high after_ed = 159
high after_f0 = 191
high after_f4 = 143

-- what follows the next byte
abbrev pub later : Tail → Option Tail
later one = None
later two = Some one
later three = Some two
later after_e0 = Some one
later after_ed = Some one
later after_f0 = Some two
later after_f4 = Some two

-- the bytes are all that the character still wants
pub data Follows : Option Tail → List ℕ → Type 0 where
  end : Follows None []
  next : {t : Tail} {b : ℕ} {bs : List ℕ} → is_between (low t) (high t) b ≡ true → Follows (later t) bs → Follows (Some t) (b ∷ bs)
