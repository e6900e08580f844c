-- The text of a label is no longer than the name.
use Rattle.std.proofs.Common.{ℕ, ◌≤◌, Bool, true, false, cond, List, [], ◌∷◌, map, length, length-append, ap, arith}
use Rattle.std.proofs.lemmas.Str.{encodes-chars, length-encode, len_utf8_bounds}
use Rattle.std.specs.Str.{IsUtf8, chars, encode_utf8_all}
use lib.Utf8.{encode}
use Rattle.ml_text.specs.Label.{is_hidden, shown, label_text}

one_byte : (hidden : Bool) (ch : ℕ) → length (encode (cond hidden 0x20 ch)) ≤ length (encode ch)
one_byte true ch = omega (arith, length-encode 0x20, length-encode ch, len_utf8_bounds ch)
one_byte false ch = omega arith

no_longer : (cs : List ℕ) → length (encode_utf8_all (map shown cs)) ≤ length (encode_utf8_all cs)
no_longer [] = omega arith
no_longer (c ∷ cs) = omega (arith, one_byte (is_hidden c) c, length-append (encode (shown c)) (encode_utf8_all (map shown cs)), length-append (encode c) (encode_utf8_all cs), no_longer cs)

-- no more bytes than the name
pub label_short : (name : List ℕ) → IsUtf8 name → length (label_text name) ≤ length name
label_short name u = let same = ap length (encodes-chars name u) in omega (arith, no_longer (chars name))
