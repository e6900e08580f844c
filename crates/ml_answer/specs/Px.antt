-- Numbers of hundredths of a pixel as text.
use Rattle.std.specs.Prelude.{ℕ, ℤ, pos, negsuc, ◌/◌, ◌%◌, List, [], ◌++◌, codes, unsigned_abs}
use Rattle.std.specs.Fmt.{decimal}

-- a minus before what is below 0
abbrev pub sign_text : ℤ → List ℕ
sign_text (pos n) = []
sign_text (negsuc n) = codes "-"

-- a number below 100 in two digits
abbrev pub two_digits : ℕ → List ℕ
two_digits n = decimal (n / 10) ++ decimal (n % 10)

-- hundredths with two decimals, as `-0.50`: the sign, the whole part of the size, a point, and the other hundredths
unfoldable pub px_text : ℤ → List ℕ
px_text z = sign_text z ++ decimal (unsigned_abs z / 100) ++ codes "." ++ two_digits (unsigned_abs z % 100)
