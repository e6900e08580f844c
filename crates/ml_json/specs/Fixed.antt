-- The text of a world coordinate: a whole number of 10^-7 in seven decimals.
use Rattle.std.specs.Prelude.{◌≡◌, ℕ, zero, suc, ◌+◌, ◌/◌, ◌%◌, ◌^◌, List, [], ◌∷◌, ◌++◌, Some, ℤ, pos, negsuc}
use Rattle.std.specs.Fmt.{decimal}
use Rattle.ml_json.specs.Decimal.{e7_of}
use Rattle.ml_ratio.specs.World.{IsInWorld}

-- a number's last decimal digits, so many of them, in order of their weight
unfoldable pub last_digits : ℕ → ℕ → List ℕ
last_digits zero n = []
last_digits (suc k) n = (48 + n / 10 ^ k % 10) ∷ last_digits k n

-- a size in seven decimals
unfoldable pub size_text : ℕ → List ℕ
size_text n = decimal (n / 10000000) ++ 46 ∷ last_digits 7 n

-- the same with a sign
abbrev pub e7_text : ℤ → List ℕ
e7_text (pos n) = size_text n
e7_text (negsuc n) = 45 ∷ size_text (suc n)

-- reading the text gives the number, where that is a world coordinate
abbrev pub ReadsBack : ℤ → List ℕ → Type 0
ReadsBack v text = IsInWorld v → e7_of text ≡ Some v
