-- The decimal fraction that a number's text writes, of any size, and the numbers of a map that are read from it.
use Rattle.std.specs.Prelude.{ℕ, ◌+◌, ◌*◌, ◌/◌, ◌^◌, List, [], ◌∷◌, length, Bool, if◌then◌else◌, nat_le, ◌==◌, ◌||◌, min, Option, Some, None, ℤ, pos, neg_ℤ, filter}
use Rattle.std.specs.Str.Parse.{digits_value, starts_with_minus}
use Rattle.ml_ratio.specs.JsonNumber.{is_digit}

-- whether a byte is one of two, as e and E
abbrev pub is_either : ℕ → ℕ → ℕ → Bool
is_either x y b = (b == x) || (b == y)

-- the bytes before the first one that is one of two
abbrev pub before : ℕ → ℕ → List ℕ → List ℕ
before x y [] = []
before x y (b ∷ bs) = if is_either x y b then [] else (b ∷ before x y bs)

-- the bytes behind the first one that is one of two
abbrev pub behind : ℕ → ℕ → List ℕ → List ℕ
behind x y [] = []
behind x y (b ∷ bs) = if is_either x y b then bs else behind x y bs

-- what stands before the exponent
abbrev pub mantissa : List ℕ → List ℕ
mantissa text = before 101 69 text

-- what stands behind the exponent's letter
abbrev pub exponent : List ℕ → List ℕ
exponent text = behind 101 69 text

-- the decimal digits among the bytes
abbrev pub digits_in : List ℕ → List ℕ
digits_in bytes = filter is_digit bytes

-- the whole number of all digits before the exponent
unfoldable pub significand : List ℕ → ℕ
significand text = digits_value 10 (digits_in (mantissa text))

-- how many digits the fraction has
unfoldable pub places : List ℕ → ℕ
places text = length (digits_in (behind 46 46 (mantissa text)))

-- the exponent's size, 0 where there is none
unfoldable pub exponent_size : List ℕ → ℕ
exponent_size text = digits_value 10 (digits_in (exponent text))

-- the power of ten that the significand is multiplied by
unfoldable pub raised : List ℕ → ℕ
raised text = if starts_with_minus (exponent text) then 0 else exponent_size text

-- the power of ten that it is divided by: the value's size is significand * 10^raised / 10^lowered
unfoldable pub lowered : List ℕ → ℕ
lowered text = places text + (if starts_with_minus (exponent text) then exponent_size text else 0)

-- whether the text begins with a minus
abbrev pub is_minus : List ℕ → Bool
is_minus text = starts_with_minus text

-- the whole number nearest to a/b, of two the greater
abbrev pub nearest : ℕ → ℕ → ℕ
nearest a b = (2 * a + b) / (2 * b)

-- the value's size times ten to a power, without its fraction
unfoldable pub size_at : ℕ → List ℕ → ℕ
size_at power text = significand text * 10 ^ (raised text + power) / 10 ^ lowered text

-- the value's size times 10^7, rounded to the nearest whole number, a half away from zero
unfoldable pub e7_size : List ℕ → ℕ
e7_size text = nearest (significand text * 10 ^ (raised text + 7)) (10 ^ lowered text)

-- a size with a sign
abbrev pub signed : Bool → ℕ → ℤ
signed minus size = if minus then neg_ℤ (pos size) else pos size

-- the value times 10^7, rounded to the nearest whole number, a half away from zero; none beyond 2,000,000,000 in size
unfoldable pub e7_of : List ℕ → Option ℤ
e7_of text = if nat_le (e7_size text) 2000000000 then Some (signed (is_minus text) (e7_size text)) else None

-- the value without its fraction; 0 where it is negative, 2^53 where it is greater
unfoldable pub whole_of : List ℕ → ℕ
whole_of text = if is_minus text then 0 else min (size_at 0 text) (2 ^ 53)
