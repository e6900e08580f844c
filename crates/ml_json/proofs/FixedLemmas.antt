-- A coordinate's text is a number's text, and reads back.
use Rattle.std.proofs.Common.{◌≡◌, ℕ, zero, suc, ◌+◌, ◌*◌, ◌/◌, ◌%◌, ◌^◌, ◌<◌, ◌≤◌, List, [], ◌∷◌, ◌++◌, length, Bool, true, false, nat_le}
use Rattle.std.proofs.Common.{◌==◌, ℤ, pos, negsuc, unsigned_abs, refl, sym, ◌∙◌, ap, subst, arith, append_assoc, append-nil, ◌<ℤ◌, ◌≤ℤ◌}
use Rattle.std.proofs.lemmas.Int.{ints}
use Rattle.std.proofs.Math.Nat.{pow-suc, one-le-pow, mul-le-mul_right}
use Rattle.std.proofs.lemmas.Nat.{mod-mul-add, div-add-mod', mod_below}
use Rattle.std.proofs.lemmas.Bool.Decides.{nat_tests}
use Rattle.std.proofs.lemmas.List.Elements.{filter-append}
use Rattle.std.proofs.lemmas.Fmt.{decimal_by_steps, decimal_is_IsNumeral, IsAscii-decimal}
use Rattle.std.proofs.lemmas.Str.{IsAscii-append}
use Rattle.std.specs.Fmt.{decimal}
use Rattle.std.specs.Str.{IsAscii}
use Rattle.std.specs.Char.{digit_value}
use Rattle.std.specs.Str.Parse.{digits_value, digits_value_after, starts_with_minus}
use Rattle.ml_ratio.specs.JsonNumber.{is_between, minus_number, plain_number, IsNumber, Unsigned, no_exponent, fraction, whole, nought, Whole, AllDigits, is_digit}
use Rattle.ml_json.specs.Decimal.{is_either, before, behind, mantissa, exponent, digits_in, significand, places, exponent_size, raised, lowered, e7_size, e7_of, signed}
use Rattle.ml_ratio.specs.World.{IsInWorld}
use Rattle.ml_json.specs.Fixed.{last_digits, size_text, e7_text, ReadsBack}
use Rattle.ml_json.proofs.Cutting.{digit_is}
use Rattle.ml_json.proofs.Scaling.{value_append}

digit_byte : (n : ℕ) → is_digit (48 + n % 10) ≡ true
digit_byte n = grind (arith, nat_tests)

all_last : (k n : ℕ) → AllDigits (last_digits k n)
unfolding last_digits
all_last zero n = tt
all_last (suc k) n = (digit_byte (n / 10 ^ k), all_last k n)

all_append : (xs ys : List ℕ) → AllDigits xs → AllDigits ys → AllDigits (xs ++ ys)
all_append [] ys h g = g
all_append (x ∷ xs) ys h g = (h.0, all_append xs ys h.1 g)

-- the digits of a whole part: one, or no zero first
record IsWhole (n : ℕ) (ds : List ℕ) : Type 0 where
  grammar : Whole ds
  all : AllDigits ds
  large : 0 < n → (d : ℕ) × (es : List ℕ) × (ds ≡ d ∷ es) × (is_between 49 57 d ≡ true)

one_digit : (n : ℕ) → n < 10 → IsWhole n ((48 + n) ∷ [])
one_digit zero h = record { grammar = nought; all = (refl, tt); large = λ l. absurd (omega arith) }
one_digit (suc n) h =
    let e : is_between 49 57 (48 + suc n) ≡ true = grind (arith, nat_tests) in
    let d : is_digit (48 + suc n) ≡ true = grind (arith, nat_tests) in
    record { grammar = whole e tt; all = (d, tt); large = λ l. (48 + suc n, [], refl, e) }

push_whole : (d c : ℕ) (es ds : List ℕ) → ds ≡ d ∷ es → is_between 49 57 d ≡ true → AllDigits ds → is_digit c ≡ true → Whole (ds ++ c ∷ [])
push_whole d c es ds e h all g =
    let tail : AllDigits (d ∷ es) = subst AllDigits e all in
    subst (λ x. Whole (x ++ c ∷ [])) (sym e) (whole h (all_append es (c ∷ []) tail.1 (g, tt)))

more_digits : (n : ℕ) (ds : List ℕ) → 10 ≤ n → IsWhole (n / 10) ds → IsWhole n (ds ++ (48 + n % 10) ∷ [])
more_digits n ds h w =
    let positive : 0 < n / 10 = omega arith in
    let (d, es, e, first) = w.large positive in
    record {
      grammar = push_whole d (48 + n % 10) es ds e first w.all (digit_byte n);
      all = all_append ds ((48 + n % 10) ∷ []) w.all (digit_byte n, tt);
      large = λ l. (d, es ++ (48 + n % 10) ∷ [], ap (λ x. x ++ (48 + n % 10) ∷ []) e, first);
    }

decimal_whole : (n : ℕ) → n < 2 ^ 64 → IsWhole n (decimal n)
decimal_whole n h = decimal_by_steps IsWhole one_digit more_digits n h

-- the text of a size is that of a number without a sign
pub size_unsigned : (n : ℕ) → n < 2 ^ 64 → Unsigned (size_text n)
unfolding size_text last_digits
size_unsigned n h =
    let w = decimal_whole (n / 10000000) (omega arith) in
    (decimal (n / 10000000), 46 ∷ last_digits 7 n, refl, w.grammar, (46 ∷ last_digits 7 n, [], sym (append-nil (46 ∷ last_digits 7 n)), fraction (all_last 7 n), no_exponent))

-- the text is a number's text
pub text_number : (v : ℤ) → unsigned_abs v < 2 ^ 64 → IsNumber (e7_text v)
text_number (pos n) h = plain_number (size_unsigned n h)
text_number (negsuc n) h = minus_number (size_unsigned (suc n) h)

-- no mark among digits
not_mark : (b x y : ℕ) → is_digit b ≡ true → is_digit x ≡ false → is_digit y ≡ false → is_either x y b ≡ false
not_mark b x y h k l = grind (arith, nat_tests)

before_digits : (x y : ℕ) (ds r : List ℕ) → AllDigits ds → is_digit x ≡ false → is_digit y ≡ false → before x y (ds ++ r) ≡ ds ++ before x y r
before_digits x y [] r h k l = refl
before_digits x y (d ∷ ds) r h k l = rw (not_mark d x y h.0 k l) (ap (λ s. d ∷ s) (before_digits x y ds r h.1 k l))

behind_digits : (x y : ℕ) (ds r : List ℕ) → AllDigits ds → is_digit x ≡ false → is_digit y ≡ false → behind x y (ds ++ r) ≡ behind x y r
behind_digits x y [] r h k l = refl
behind_digits x y (d ∷ ds) r h k l = rw (not_mark d x y h.0 k l) (behind_digits x y ds r h.1 k l)

digits_digits : (ds : List ℕ) → AllDigits ds → digits_in ds ≡ ds
digits_digits [] h = refl
digits_digits (d ∷ ds) h = rw (h.0) (ap (λ s. d ∷ s) (digits_digits ds h.1))

no_minus : (d : ℕ) → is_digit d ≡ true → (d == 45) ≡ false
no_minus d h = grind (arith, nat_tests)

-- one decimal digit more of a remainder
mod_digit : (n p : ℕ) → 0 < p → n % (p * 10) ≡ (n / p % 10) * p + n % p
mod_digit n p h =
    let q = n / p / 10 in
    let d = n / p % 10 in
    let a : n / p * p + n % p ≡ n = div-add-mod' n p in
    let b : q * 10 + d ≡ n / p = div-add-mod' (n / p) 10 in
    let c : (q * 10 + d) * p ≡ n / p * p = ap (λ x. x * p) b in
    let r : n % p < p = mod_below n p h in
    let ten : d ≤ 9 = omega arith in
    let few : d * p ≤ 9 * p = mul-le-mul_right p ten in
    let small : d * p + n % p < p * 10 = omega arith in
    let e : n ≡ q * (p * 10) + (d * p + n % p) = omega arith in
    ap (λ x. x % (p * 10)) e ∙ mod-mul-add q (p * 10) (d * p + n % p) small

last_value : (n : ℕ) → digit_value (48 + n % 10) ≡ n % 10
last_value n = let h = digit_is (48 + n % 10) (digit_byte n) in omega arith

-- the value of last digits behind a number
after_last : (m k n : ℕ) → digits_value_after 10 m (last_digits k n) ≡ m * 10 ^ k + n % 10 ^ k
unfolding last_digits
after_last m zero n = omega arith
after_last m (suc k) n =
    let power = one-le-pow k 10 (omega arith) in
    let digit = mod_digit n (10 ^ k) (omega arith) in
    let v = last_value (n / 10 ^ k) in
    let h : digits_value_after 10 (m * 10 + digit_value (48 + n / 10 ^ k % 10)) (last_digits k n) ≡ (m * 10 + digit_value (48 + n / 10 ^ k % 10)) * 10 ^ k + n % 10 ^ k =
    after_last (m * 10 + digit_value (48 + n / 10 ^ k % 10)) k n in
    rw (pow-suc 10 k, digit) (h ∙ rw v (let e : (m * 10 + n / 10 ^ k % 10) * 10 ^ k + n % 10 ^ k ≡ m * (10 ^ k * 10) + (n / 10 ^ k % 10 * 10 ^ k + n % 10 ^ k) = omega arith in e))

-- what stands before and behind the marks of a size's text
plain_before : (x y : ℕ) (ds : List ℕ) → AllDigits ds → is_digit x ≡ false → is_digit y ≡ false → before x y ds ≡ ds
plain_before x y ds h k l = ap (before x y) (sym (append-nil ds)) ∙ before_digits x y ds [] h k l ∙ append-nil ds

plain_behind : (x y : ℕ) (ds : List ℕ) → AllDigits ds → is_digit x ≡ false → is_digit y ≡ false → behind x y ds ≡ []
plain_behind x y ds h k l = ap (behind x y) (sym (append-nil ds)) ∙ behind_digits x y ds [] h k l

size_mantissa : (n : ℕ) → n < 2 ^ 64 → before 101 69 (size_text n) ≡ size_text n
unfolding size_text
size_mantissa n h =
    let w = decimal_whole (n / 10000000) (omega arith) in
    before_digits 101 69 (decimal (n / 10000000)) (46 ∷ last_digits 7 n) w.all refl refl
    ∙ ap (λ s. decimal (n / 10000000) ++ 46 ∷ s) (plain_before 101 69 (last_digits 7 n) (all_last 7 n) refl refl)

size_exponent : (n : ℕ) → n < 2 ^ 64 → behind 101 69 (size_text n) ≡ []
unfolding size_text
size_exponent n h =
    let w = decimal_whole (n / 10000000) (omega arith) in
    behind_digits 101 69 (decimal (n / 10000000)) (46 ∷ last_digits 7 n) w.all refl refl ∙ plain_behind 101 69 (last_digits 7 n) (all_last 7 n) refl refl

size_fraction : (n : ℕ) → n < 2 ^ 64 → behind 46 46 (size_text n) ≡ last_digits 7 n
unfolding size_text
size_fraction n h = let w = decimal_whole (n / 10000000) (omega arith) in behind_digits 46 46 (decimal (n / 10000000)) (46 ∷ last_digits 7 n) w.all refl refl

size_digits : (n : ℕ) → n < 2 ^ 64 → digits_in (size_text n) ≡ decimal (n / 10000000) ++ last_digits 7 n
unfolding size_text
size_digits n h =
    let w = decimal_whole (n / 10000000) (omega arith) in
    filter-append is_digit (decimal (n / 10000000)) (46 ∷ last_digits 7 n)
    ∙ ap (λ s. s ++ digits_in (last_digits 7 n)) (digits_digits (decimal (n / 10000000)) w.all)
    ∙ ap (λ s. decimal (n / 10000000) ++ s) (digits_digits (last_digits 7 n) (all_last 7 n))

seven_places : (n : ℕ) → length (digits_in (last_digits 7 n)) ≡ 7
unfolding last_digits
seven_places n = ap length (digits_digits (last_digits 7 n) (all_last 7 n))

size_value : (n : ℕ) → n < 2 ^ 64 → digits_value 10 (digits_in (size_text n)) ≡ n
size_value n h =
    let front = decimal_is_IsNumeral (n / 10000000) (omega arith) in
    let all = after_last (n / 10000000) 7 n in
    ap (digits_value 10) (size_digits n h) ∙ value_append 0 (decimal (n / 10000000)) (last_digits 7 n)
    ∙ ap (λ m. digits_value_after 10 m (last_digits 7 n)) front.1 ∙ omega (arith, all)

-- any text with these parts has this size
part_size : (text : List ℕ) (n : ℕ) → digits_value 10 (digits_in (mantissa text)) ≡ n → length (digits_in (behind 46 46 (mantissa text))) ≡ 7 → exponent text ≡ [] → e7_size text ≡ n
unfolding e7_size significand raised lowered places exponent_size
part_size text n value places none = rw (value, places, none) (omega arith)

whole_first : {w : List ℕ} → Whole w → (d : ℕ) × (es : List ℕ) × (w ≡ d ∷ es) × (is_digit d ≡ true)
whole_first nought = (48, [], refl, refl)
whole_first (whole {d} {ds} h all) = (d, ds, refl, grind (arith, nat_tests))

size_plus : (n : ℕ) → n < 2 ^ 64 → starts_with_minus (size_text n) ≡ false
unfolding size_text
size_plus n h =
    let w = decimal_whole (n / 10000000) (omega arith) in
    let (d, es, e, digit) = whole_first w.grammar in
    ap (λ s. starts_with_minus (s ++ 46 ∷ last_digits 7 n)) e ∙ no_minus d digit

-- a coordinate's text reads back
pub text_back : (v : ℤ) → ReadsBack v (e7_text v)
unfolding e7_of
text_back (pos n) h =
    let small : n ≤ 2000000000 = omega (arith, ints, h.1) in
    let fits : n < 2 ^ 64 = omega arith in
    let size : e7_size (size_text n) ≡ n = part_size (size_text n) n (ap (λ s. digits_value 10 (digits_in s)) (size_mantissa n fits) ∙ size_value n fits)
    (ap (λ s. length (digits_in (behind 46 46 s))) (size_mantissa n fits) ∙ ap (λ s. length (digits_in s)) (size_fraction n fits) ∙ seven_places n) (size_exponent n fits) in
    let within : nat_le n 2000000000 ≡ true = grind (arith, nat_tests) in
    rw (size, within, size_plus n fits) refl
text_back (negsuc m) h =
    let small : suc m ≤ 2000000000 = omega (arith, ints, h.0) in
    let n = suc m in
    let fits : suc m < 2 ^ 64 = omega arith in
    let size : e7_size (45 ∷ size_text n) ≡ n = part_size (45 ∷ size_text n) n (ap (λ s. digits_value 10 (digits_in s)) (size_mantissa n fits) ∙ size_value n fits)
    (ap (λ s. length (digits_in (behind 46 46 s))) (size_mantissa n fits) ∙ ap (λ s. length (digits_in s)) (size_fraction n fits) ∙ seven_places n) (size_exponent n fits) in
    let within : nat_le (suc m) 2000000000 ≡ true = grind (arith, nat_tests) in
    rw (size, within) refl

-- a size's text in two parts, behind a start
pub joined_text : (start : List ℕ) (size : ℕ) (digits : List ℕ) → digits ≡ last_digits 7 size →
    (start ++ decimal (size / 10000000)) ++ 46 ∷ digits ≡ start ++ size_text size
unfolding size_text
joined_text start size digits e =
    append_assoc start (decimal (size / 10000000)) (46 ∷ digits) ∙ ap (λ s. start ++ (decimal (size / 10000000) ++ 46 ∷ s)) e

more_ascii : (b : ℕ) (bs : List ℕ) → b < 128 → IsAscii bs → IsAscii (b ∷ bs)
more_ascii b bs h g zero = h
more_ascii b bs h g (suc i) = g i

digits_ascii : (ds : List ℕ) → AllDigits ds → IsAscii ds
digits_ascii [] h = λ i. omega arith
digits_ascii (d ∷ ds) h = let e = h.0 in more_ascii d ds (grind (arith, nat_tests)) (digits_ascii ds h.1)

size_ascii : (n : ℕ) → n < 2 ^ 64 → IsAscii (size_text n)
unfolding size_text
size_ascii n h =
    IsAscii-append (decimal (n / 10000000)) (46 ∷ last_digits 7 n) (IsAscii-decimal (n / 10000000) (omega arith))
    (more_ascii 46 (last_digits 7 n) (omega arith) (digits_ascii (last_digits 7 n) (all_last 7 n)))

-- the text is ASCII
pub text_ascii : (v : ℤ) → unsigned_abs v < 2 ^ 64 → IsAscii (e7_text v)
text_ascii (pos n) h = size_ascii n h
text_ascii (negsuc n) h = more_ascii 45 (size_text (suc n)) (omega arith) (size_ascii (suc n) h)

-- the text of a number below 0 is a minus and the text of its size
pub minus_text : (v : ℤ) (size : ℕ) → size ≡ unsigned_abs v → v <ℤ pos 0 → 45 ∷ size_text size ≡ e7_text v
minus_text (pos n) size e h = absurd (omega (arith, ints, h))
minus_text (negsuc n) size e h = ap (λ m. 45 ∷ size_text m) e

-- the text of a number from 0 on is that of its size
pub plus_text : (v : ℤ) (size : ℕ) → size ≡ unsigned_abs v → pos 0 ≤ℤ v → size_text size ≡ e7_text v
plus_text (pos n) size e h = ap size_text e
plus_text (negsuc n) size e h = absurd (omega (arith, ints, h))

-- a small size with a sign is in the world
pub signed_world : (minus : Bool) (n : ℕ) → n ≤ 2000000000 → IsInWorld (signed minus n)
signed_world true n h = (omega (arith, ints), omega (arith, ints))
signed_world false n h = (omega (arith, ints), omega (arith, ints))
