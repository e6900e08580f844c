-- Sums of the advances of a text.
use Rattle.std.proofs.Common.{◌≡◌, ℕ, ◌+◌, ◌*◌, ◌<◌, ◌≤◌, List, [], ◌∷◌, length, get_or, Option, Some, None, ◌++◌, eqb, min, Result, Ok, Err, sum_by, find, ap, ◌∙◌, arith, inl, inr}
use Rattle.std.proofs.lemmas.Bool.{cases_lt}
use Rattle.std.proofs.lemmas.List.Sums.{sum_by-le, sum_by-cons}
use Rattle.std.proofs.Math.Nat.{mul-le-mul, div-le_self}
use Rattle.std.proofs.lemmas.Str.{length-le-encodes, encodes-chars, chars_past_char, chars-nil}
use Rattle.std.specs.Result.{OkIff, result_unwrap_or}
use Rattle.std.specs.Option.{option_map_or}
use Rattle.std.specs.Str.{IsUtf8, chars}
use lib.Utf8.{encode}
use Rattle.ml_style.specs.Font.{advance_of}
use Rattle.ml_style.specs.declared.font.Font.{Font}
use Rattle.ml_style.specs.declared.advance.Advance.{Advance}
use Rattle.ml_text.specs.Width.{advance_sum, width_of}

narrow_at : (found : Option Advance) (fallback : ℕ) → fallback ≤ 65535 → option_map_or (λ (a : Advance). a.width) found fallback ≤ 65535
narrow_at None fallback h = h
narrow_at (Some a) fallback h = a.narrow

-- no advance is above 65535
pub narrow : (font : Font) (ch : ℕ) → advance_of font ch ≤ 65535
narrow font ch = narrow_at (find (λ (a : Advance). eqb a.ch ch) font.advances) font.fallback font.narrow

-- the advances of a text are below its length times 65535
pub sum_low : (font : Font) (text : List ℕ) → IsUtf8 text → advance_sum font text ≤ length text * 65535
sum_low font text u =
    let each : sum_by (advance_of font) (chars text) ≤ length (chars text) * 65535 = sum_by-le (advance_of font) 65535 (chars text) (λ k d h. narrow font (get_or (chars text) k d)) in
    let few : length (chars text) ≤ length text = rw (encodes-chars text u) at (length-le-encodes (chars text)) in
    omega arith

-- one more character
pub one_more : (font : Font) (text rest : List ℕ) (ch : ℕ) → IsUtf8 text → text ≡ encode ch ++ rest → sum_by (advance_of font) (chars text) ≡ advance_of font ch + sum_by (advance_of font) (chars rest)
one_more font text rest ch u e = ap (sum_by (advance_of font)) (chars_past_char text rest ch u e) ∙ sum_by-cons (advance_of font) ch (chars rest)

within : (x : ℕ) → x ≤ 18446744073709551615 → x ≡ min x 18446744073709551615
within x h = omega arith

beyond : (x : ℕ) → 18446744073709551616 ≤ x → 18446744073709551615 ≡ min x 18446744073709551615
beyond x h = omega arith

-- a number cut at 2^64 - 1
pub cut_off : {E : Type 0} (r : Result ℕ E) (x : ℕ) → OkIff r (x < 18446744073709551616) x → result_unwrap_or r 18446744073709551615 ≡ min x 18446744073709551615
cut_off (Ok y) x h = (let below : x < 18446744073709551616 = h.0 in let same : y ≡ x = h.1 in same ∙ within x (omega arith))
cut_off (Err e) x h = beyond x (elim (cases_lt x 18446744073709551616) [ inl below ↦ absurd (h below) | inr above ↦ above ])

-- nothing more
pub no_more : (font : Font) (rest : List ℕ) → length rest ≡ 0 → sum_by (advance_of font) (chars rest) ≡ 0
no_more font [] h = ap (sum_by (advance_of font)) chars-nil
no_more font (b ∷ bs) h = absurd (omega arith)

-- the width of a text of fewer than 2^32 bytes is below 2^64
pub width_low : (font : Font) (size : ℕ) (text : List ℕ) → IsUtf8 text → size ≤ 256 → length text < 4294967296 → width_of font size text ≡ min (width_of font size text) 18446744073709551615
width_low font size text u h short =
    let low = sum_low font text u in
    let product : advance_sum font text * size ≤ length text * 65535 * 256 = mul-le-mul low h in
    let quotient = div-le_self (advance_sum font text * size) font.units in
    within (width_of font size text) (omega arith)
