-- Numbers that are written read back.
use Rattle.std.proofs.Common.{◌≡◌, ℕ, suc, ◌+◌, ◌^◌, ◌<◌, ◌≤◌, Bool, true, false, ◌&&◌, ℤ, pos, negsuc, List, ◌∷◌, ◌++◌, length, take, drop, Some, refl, ap, ap₂, subst, ◌∙◌, arith, length-append}
use Rattle.std.specs.Prelude.{All, ◌==◌, nat_lt, nat_le}
use Rattle.std.specs.Fmt.{decimal, signed_decimal}
use Rattle.std.specs.List.{position_or_len, before_first, after_first}
use Rattle.std.specs.Str.{all_ascii_digits}
use Rattle.std.specs.Str.Parse.{digits_value}
use Rattle.std.proofs.Math.ListN.{get_or-append}
use Rattle.std.proofs.Math.Seq.{get_or-append_seam, take-append_seam, drop-append-add}
use Rattle.std.proofs.lemmas.Bool.Decides.{nat_tests}
use Rattle.std.proofs.lemmas.Fmt.{digits_decimal, digits_value-decimal, length-decimal-le, decimal_nonempty}
use Rattle.std.proofs.lemmas.List.Sums.{position_or_len_is}
use Rattle.std.proofs.lemmas.Str.Parse.{IsNumeralModel, numerals_by_value, tells_all_ascii_digits}
use Rattle.ml_ratio.specs.Number.{are_up_to, number_up_to, is_numeral, numeral, whole_number}
use Rattle.ml_ratio.specs.Ratio.{ReadsRatio, ratio_text}
use Rattle.ml_ratio.specs.RatioText.{is_slash, both_numbers, ratio_parts}
use Rattle.ml_ratio.specs.declared.ratio.Ratio.{Ratio}
use Rattle.ml_ratio.proofs.lemmas.Numerals.{numeral_some, up_to_some, whole_minus, whole_plain, parts_split}
use Rattle.ml_follow.proofs.Bytes.{Within, none_below, decimal_within, IsSmall}

digits_model : IsNumeralModel (λ ds. all_ascii_digits ds ≡ true) (digits_value 10)
digits_model = numerals_by_value (λ ds. all_ascii_digits ds ≡ true) tells_all_ascii_digits

three : (a b : ℕ) (t : Bool) (most : ℕ) → 0 < a → a ≤ most → t ≡ true → (nat_lt 0 a && (nat_le a most && t)) ≡ true
three a b t most p q r = grind (arith, nat_tests)

-- a number that has no more digits than are allowed is read back from its decimal text
pub up_to_back : (most n : ℕ) → 0 < most → n < 10 ^ most → n < 2 ^ 64 → number_up_to most (decimal n) ≡ Some n
up_to_back most n some low fits =
    let test : are_up_to most (decimal n) ≡ true = three (length (decimal n)) 0 (all_ascii_digits (decimal n)) most
    (decimal_nonempty n fits) (length-decimal-le most n some low fits) (digits_decimal digits_model n fits) in
    up_to_some most (decimal n) test ∙ ap Some (digits_value-decimal digits_model n fits)

-- a number of at most ten digits is read back by the reader of numerals, which takes no sign
pub numeral_back : (n : ℕ) → n < 10 ^ 10 → numeral (decimal n) ≡ Some n
numeral_back n low =
    let fits : n < 2 ^ 64 = omega arith in
    let test : is_numeral (decimal n) ≡ true = three (length (decimal n)) 0 (all_ascii_digits (decimal n)) 10
    (decimal_nonempty n fits) (length-decimal-le 10 n (omega arith) low fits) (digits_decimal digits_model n fits) in
    numeral_some (decimal n) test ∙ ap Some (digits_value-decimal digits_model n fits)

-- a number of at most ten digits is read back with its sign
pub whole_back : (z : ℤ) → IsSmall z → whole_number (signed_decimal z) ≡ Some z
whole_back (pos n) h =
    whole_plain (decimal n) (λ rest e. let at = subst (Within 48 57) e (decimal_within n (omega arith)) in omega (arith, at.0))
    ∙ rw (numeral_back n h) refl
whole_back (negsuc n) h = whole_minus (45 ∷ decimal (suc n)) (decimal (suc n)) refl ∙ rw (numeral_back (suc n) (omega arith)) refl

-- the parts before and after the one slash
slash_at : (xs ys : List ℕ) → All (λ x. (x == 47) ≡ false) xs → position_or_len is_slash (xs ++ 47 ∷ ys) ≡ length xs
slash_at xs ys none =
    let n = length-append xs (47 ∷ ys) in
    position_or_len_is is_slash (xs ++ 47 ∷ ys) (length xs) 0 (omega arith)
    (λ k lt. rw (get_or-append xs (47 ∷ ys) 0 k lt) (none k 0 lt))
    (λ lt. rw (get_or-append_seam xs 47 ys 0) refl)

-- the text of a fraction in lowest terms reads as that fraction
pub ratio_back : (r : Ratio) → ReadsRatio (ratio_text r) (Some r)
ratio_back r =
    let low = r.low_num in
    let low_too = r.low_den in
    let none = none_below 48 57 47 (decimal r.num) (omega arith) (decimal_within r.num (omega arith)) in
    let at = slash_at (decimal r.num) (decimal r.den) none in
    let n = length-append (decimal r.num) (47 ∷ decimal r.den) in
    let before : before_first is_slash (ratio_text r) ≡ decimal r.num = ap (λ (k : ℕ). take k (ratio_text r)) at ∙ take-append_seam (decimal r.num) (47 ∷ decimal r.den) in
    let after : after_first is_slash (ratio_text r) ≡ decimal r.den = ap (λ (k : ℕ). drop (k + 1) (ratio_text r)) at ∙ drop-append-add (decimal r.num) (47 ∷ decimal r.den) 1 in
    let split : ratio_parts (ratio_text r) ≡ both_numbers (numeral (decimal r.num)) (numeral (decimal r.den)) =
    parts_split (ratio_text r) (omega arith) ∙ ap₂ (λ (a b : List ℕ). both_numbers (numeral a) (numeral b)) before after in
    let whole : ratio_parts (ratio_text r) ≡ Some (r.num, r.den) = split ∙ rw (numeral_back r.num (omega arith), numeral_back r.den (omega arith)) refl in
    rw whole (record { positive = r.positive; low_den = r.low_den; low_num = r.low_num }, refl)
