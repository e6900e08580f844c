-- What decimal digits are worth, and what texts of whole numbers and fractions read as.
use Rattle.std.proofs.Common.{◌≡◌, ℕ, ◌+◌, ◌*◌, ◌<◌, ◌≤◌, ◌^◌, Bool, true, false, ◌&&◌, List, [], ◌∷◌, length, Option, Some, None, arith, refl, ap, sym, eqb, suc, ◌≢◌, ℤ, pos, neg_ℤ}
use Rattle.std.specs.Prelude.{nat_lt, nat_le, MatchOption}
use Rattle.std.specs.Str.{all_ascii_digits}
use Rattle.std.specs.Str.Parse.{digits_value}
use Rattle.std.proofs.Math.Nat.{eq_of_mul-eq-mul_right}
use Rattle.std.proofs.lemmas.Bool.Decides.{nat_tests}
use Rattle.std.proofs.lemmas.Bool.{false≢true}
use Rattle.std.proofs.lemmas.Str.Parse.{IsNumeralModel, numerals_by_value, tells_all_ascii_digits, digits_value_short}
use Rattle.std.specs.Option.{option_map}
use Rattle.std.specs.List.{list_any, position_or_len, before_first, after_first}
use Rattle.ml_ratio.specs.Fraction.{value_of, IsSame}
use Rattle.ml_ratio.specs.Number.{are_up_to, number_up_to, is_numeral, numeral, whole_number}
use Rattle.ml_ratio.specs.Ratio.{IsRatioOf, ReadsRatio}
use Rattle.ml_ratio.specs.RatioText.{is_slash, both_numbers, ratio_parts}
use Rattle.ml_ratio.specs.declared.ratio.Ratio.{Ratio}

-- decimal digits and what they are worth fit what std asks of numerals that it parses
pub digits_model : IsNumeralModel (λ ds. all_ascii_digits ds ≡ true) (digits_value 10)
digits_model = numerals_by_value (λ ds. all_ascii_digits ds ≡ true) tells_all_ascii_digits

not_equal : (a b : ℕ) → (a ≡ b → ⊥) → eqb a b ≡ false
not_equal a b differ = grind (arith, nat_tests)

-- where two tests hold together, each one holds
pub both_of : (a b : Bool) → (a && b) ≡ true → (a ≡ true) × (b ≡ true)
both_of true b e = (refl, e)
both_of false b e = absurd (false≢true e)

-- one to so many decimal digits write the number that they are worth
pub up_to_some : (most : ℕ) (bytes : List ℕ) → are_up_to most bytes ≡ true → number_up_to most bytes ≡ Some (digits_value 10 bytes)
unfolding number_up_to
up_to_some most bytes e = rw e

pub record IsNumeralText (bytes : List ℕ) : Type 0 where
  pub some : 0 < length bytes
  pub short : length bytes ≤ 10
  pub digits : all_ascii_digits bytes ≡ true

-- a text that passes as a numeral is of one to ten bytes, all of them decimal digits
pub numeral_text : (bytes : List ℕ) → is_numeral bytes ≡ true → IsNumeralText bytes
numeral_text bytes e =
    let one = both_of (nat_lt 0 (length bytes)) (nat_le (length bytes) 10 && all_ascii_digits bytes) e in
    let two = both_of (nat_le (length bytes) 10) (all_ascii_digits bytes) one.1 in
    let p : nat_lt 0 (length bytes) ≡ true = one.0 in
    let q : nat_le (length bytes) 10 ≡ true = two.0 in
    record { some = grind (arith, nat_tests); short = grind (arith, nat_tests); digits = two.1 }

-- ten digits are worth less than ten to the ten
pub digits_small : (bytes : List ℕ) → is_numeral bytes ≡ true → digits_value 10 bytes < 10 ^ 10
digits_small bytes e = let t = numeral_text bytes e in digits_value_short digits_model bytes 10 t.digits t.short

-- one to ten decimal digits write the number that they are worth
pub numeral_some : (bytes : List ℕ) → is_numeral bytes ≡ true → numeral bytes ≡ Some (digits_value 10 bytes)
unfolding numeral
numeral_some bytes e = rw e

-- a text that is not one to ten decimal digits writes no number
pub numeral_none : (bytes : List ℕ) → is_numeral bytes ≡ false → numeral bytes ≡ None
unfolding numeral
numeral_none bytes e = rw e

-- a numeral's number is below ten to the ten
pub numeral_small : (bytes : List ℕ) (n : ℕ) → numeral bytes ≡ Some n → n < 10 ^ 10
unfolding numeral
numeral_small bytes n h = by_test (is_numeral bytes) refl
  where
    by_test : (b : Bool) → is_numeral bytes ≡ b → n < 10 ^ 10
    by_test true e = let f : digits_value 10 bytes ≡ n = (let g = rw e at h in cc) in let s : digits_value 10 bytes < 10 ^ 10 = digits_small bytes e in omega arith
    by_test false e = absurd (let g : None ≡ Some n = rw e at h in cc)

-- a minus, and then digits
pub whole_minus : (text rest : List ℕ) → text ≡ 45 ∷ rest → whole_number text ≡ option_map (λ n. neg_ℤ (pos n)) (numeral rest)
unfolding whole_number
whole_minus text rest e = rw e refl

-- no minus
pub whole_plain : (text : List ℕ) → ((rest : List ℕ) → text ≢ 45 ∷ rest) → whole_number text ≡ option_map pos (numeral text)
unfolding whole_number
whole_plain [] none = sym (ap (option_map pos) (numeral_none [] refl))
whole_plain (byte ∷ rest) none =
    let differ : eqb byte 45 ≡ false = not_equal byte 45 (λ e. none rest (ap (λ b. b ∷ rest) e)) in
    rw differ refl

-- whether an element passes, by the place of the first that does
passes_at : (t : Bool) (p : ℕ → Bool) (b : ℕ) (bytes : List ℕ) → p b ≡ t → (position_or_len p bytes < length bytes → list_any p bytes ≡ true) →
    position_or_len p (b ∷ bytes) < length (b ∷ bytes) → list_any p (b ∷ bytes) ≡ true
passes_at true p b bytes e rest h = rw e refl
passes_at false p b bytes e rest h =
    let f : position_or_len p (b ∷ bytes) ≡ 1 + position_or_len p bytes = rw e refl in
    let k : position_or_len p (b ∷ bytes) < suc (length bytes) = h in
    rw e (rest (omega arith))

some_passes : (p : ℕ → Bool) (bytes : List ℕ) → position_or_len p bytes < length bytes → list_any p bytes ≡ true
some_passes p [] h = absurd (omega arith)
some_passes p (b ∷ bytes) h = passes_at (p b) p b bytes refl (some_passes p bytes) h

-- a text with a slash writes the number before the first slash over that behind it
pub parts_split : (bytes : List ℕ) → position_or_len is_slash bytes < length bytes → ratio_parts bytes ≡ both_numbers (numeral (before_first is_slash bytes)) (numeral (after_first is_slash bytes))
unfolding ratio_parts
parts_split bytes h = rw (some_passes is_slash bytes h) refl

-- a text writes one fraction at most, by value
same_by : (o : Option (ℕ × ℕ)) (r s : Ratio) → MatchOption o (Some r ≡ None) (λ p. IsRatioOf p.0 p.1 (Some r)) →
    MatchOption o (Some s ≡ None) (λ p. IsRatioOf p.0 p.1 (Some s)) → IsSame (value_of r) (value_of s)
same_by None r s h k = absurd (cc)
same_by (Some p) r s h k =
    let one : r.num * p.1 ≡ p.0 * r.den = h.1 in
    let two : s.num * p.1 ≡ p.0 * s.den = k.1 in
    let left : r.num * p.1 * s.den ≡ p.0 * r.den * s.den = ap (λ (n : ℕ). n * s.den) one in
    let right : s.num * p.1 * r.den ≡ p.0 * s.den * r.den = ap (λ (n : ℕ). n * r.den) two in
    eq_of_mul-eq-mul_right p.1 h.0.positive (r.num * s.den) (s.num * r.den) (omega arith)

-- two fractions as which a text reads have the same value
pub ratio_same : (text : List ℕ) (r s : Ratio) → ReadsRatio text (Some r) → ReadsRatio text (Some s) → IsSame (value_of r) (value_of s)
ratio_same text r s h k = same_by (ratio_parts text) r s h k
