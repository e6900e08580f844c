-- A number times a power of ten by moving the cut between its digits.
use Rattle.std.proofs.Common.{◌≡◌, ℕ, zero, suc, ◌+◌, ◌-◌, ◌*◌, ◌/◌, ◌^◌, ◌<◌, ◌≤◌, List, [], ◌∷◌, ◌++◌, length, take, drop}
use Rattle.std.proofs.Common.{min, Bool, true, false, cond, refl, sym, ◌∙◌, ap, subst, arith, inl, inr, length-drop}
use Rattle.std.proofs.Math.Nat.{min-eq_left, min-eq_right, pow-suc, one-le-pow, pow-le-pow_right, mul-le-mul_left, mul-le-mul_right}
use Rattle.std.proofs.Math.Nat.{mul-lt-mul_of_pos_right, mul-div_cancel, div-eq_of_lt, div-div-eq-div-mul, mul-div-mul_left, add-mul-div_left}
use Rattle.std.proofs.lemmas.List.{take-append-drop}
use Rattle.std.proofs.lemmas.Nat.{div-mul-add, pow-add, le-div}
use Rattle.std.proofs.lemmas.Int.Digits.{digits_value-lt}
use Rattle.std.proofs.lemmas.Bool.{cases_lt}
use Rattle.std.proofs.lemmas.Bool.Decides.{nat_tests}
use Rattle.std.specs.Char.{digit_value}
use Rattle.std.specs.Str.Parse.{digits_value, digits_value_after, AllDigits, starts_with_minus}
use Rattle.ml_ratio.specs.JsonNumber.{is_digit}
use Rattle.ml_json.specs.Decimal.{is_either, before, behind, mantissa, exponent, digits_in, significand, places, exponent_size, raised, lowered, size_at, e7_size, nearest}
use Rattle.ml_json.proofs.Cutting.{digit_is}

power_positive : (k : ℕ) → 0 < 10 ^ k
power_positive k = let h = one-le-pow k 10 (omega arith) in omega arith

spread : (n v p rest : ℕ) → (n * 10 + v) * p + rest ≡ n * (p * 10) + ((0 * 10 + v) * p + rest)
spread n v p rest = omega arith

-- digits behind a number
after_is : (n : ℕ) (ds : List ℕ) → digits_value_after 10 n ds ≡ n * 10 ^ length ds + digits_value 10 ds
after_is n [] = omega arith
after_is n (d ∷ ds) =
    after_is (n * 10 + digit_value d) ds ∙ spread n (digit_value d) (10 ^ length ds) (digits_value 10 ds)
    ∙ ap (λ x. n * x + ((0 * 10 + digit_value d) * 10 ^ length ds + digits_value 10 ds)) (sym (pow-suc 10 (length ds)))
    ∙ ap (λ x. n * 10 ^ suc (length ds) + x) (sym (after_is (0 * 10 + digit_value d) ds))

-- digits in two parts make the number that the second part makes behind that of the first
pub value_append : (n : ℕ) (xs ys : List ℕ) → digits_value_after 10 n (xs ++ ys) ≡ digits_value_after 10 (digits_value_after 10 n xs) ys
value_append n [] ys = refl
value_append n (x ∷ xs) ys = value_append (n * 10 + digit_value x) xs ys

digits_drop : (k : ℕ) (ds : List ℕ) → AllDigits 10 ds → AllDigits 10 (drop k ds)
digits_drop zero ds h = h
digits_drop (suc k) [] h = tt
digits_drop (suc k) (d ∷ ds) h = digits_drop k ds h.1

-- the last j digits cut off
pub cut : (j : ℕ) (ds : List ℕ) → AllDigits 10 ds → digits_value 10 ds / 10 ^ j ≡ digits_value 10 (take (length ds - j) ds)
cut j ds h = elim (cases_lt (length ds) j) [
  | inl short ↦ (
      let none : length ds - j ≡ 0 = omega arith in
      let small = digits_value-lt 10 ds h in
      let power : 10 ^ length ds ≤ 10 ^ j = pow-le-pow_right {n = 10} (omega arith) (omega arith) in
      rw none (div-eq_of_lt (omega arith)))
  | inr long ↦ (
      let front = take (length ds - j) ds in
      let back = drop (length ds - j) ds in
      let size : length back ≡ j = omega (arith, length-drop (length ds - j) ds) in
      let whole : digits_value 10 ds ≡ digits_value 10 front * 10 ^ j + digits_value 10 back =
      ap (digits_value 10) (sym (take-append-drop (length ds - j) ds)) ∙ value_append 0 front back
      ∙ after_is (digits_value 10 front) back ∙ ap (λ n. digits_value 10 front * 10 ^ n + digits_value 10 back) size in
      let small : digits_value 10 back < 10 ^ j = subst (λ n. digits_value 10 back < 10 ^ n) size (digits_value-lt 10 back (digits_drop (length ds - j) ds h)) in
      ap (λ n. n / 10 ^ j) whole ∙ div-mul-add (digits_value 10 front) (10 ^ j) (digits_value 10 back) small)
]

take_nothing : (k : ℕ) → take {A = ℕ} k [] ≡ []
take_nothing zero = refl
take_nothing (suc k) = refl

take_all : (k : ℕ) (ds : List ℕ) → length ds ≤ k → take k ds ≡ ds
take_all k [] h = take_nothing k
take_all zero (d ∷ ds) h = absurd (omega arith)
take_all (suc k) (d ∷ ds) h = ap (λ x. d ∷ x) (take_all k ds (omega arith))

-- a power of ten up and a power of ten down
pub moved : (ds : List ℕ) (up down : ℕ) → AllDigits 10 ds →
    digits_value 10 (take ((length ds + up) - down) ds) * 10 ^ (((length ds + up) - down) - length ds) ≡ digits_value 10 ds * 10 ^ up / 10 ^ down
moved ds up down h = elim (cases_lt up down) [
  | inl less ↦ (
      let j = down - up in
      let kept : (length ds + up) - down ≡ length ds - j = omega arith in
      let none : (length ds - j) - length ds ≡ 0 = omega arith in
      let sum : down ≡ up + j = omega arith in
      rw (kept, none) (
      let one : digits_value 10 (take (length ds - j) ds) * 1 ≡ digits_value 10 (take (length ds - j) ds) = omega arith in
      one ∙ sym (cut j ds h) ∙ sym (mul-div-mul_left (digits_value 10 ds) (10 ^ j) (power_positive up))
      ∙ ap (λ x. x / (10 ^ up * 10 ^ j)) (let e : 10 ^ up * digits_value 10 ds ≡ digits_value 10 ds * 10 ^ up = omega arith in e)
      ∙ ap (λ x. digits_value 10 ds * 10 ^ up / x) (sym (pow-add 10 up j) ∙ ap (λ k. 10 ^ k) (sym sum))))
  | inr more ↦ (
      let j = up - down in
      let zeros : ((length ds + up) - down) - length ds ≡ j = omega arith in
      let sum : up ≡ j + down = omega arith in
      rw (zeros, take_all ((length ds + up) - down) ds (omega arith)) (
      sym (mul-div_cancel (digits_value 10 ds * 10 ^ j) (power_positive down))
      ∙ ap (λ x. x / 10 ^ down) (let e : digits_value 10 ds * 10 ^ j * 10 ^ down ≡ digits_value 10 ds * (10 ^ j * 10 ^ down) = omega arith in
      e ∙ ap (λ x. digits_value 10 ds * x) (sym (pow-add 10 j down) ∙ ap (λ k. 10 ^ k) (sym sum)))))
]

-- a bound before zeros are put behind, and after
capped_zeros : (a m z : ℕ) → min (min a m * 10 ^ z) m ≡ min (a * 10 ^ z) m
capped_zeros a m z = elim (cases_lt a m) [
  | inl less ↦ rw (min-eq_left {n = a} {m = m} (omega arith)) refl
  | inr more ↦ (
      let power = one-le-pow z 10 (omega arith) in
      let x : m * 1 ≤ m * 10 ^ z = mul-le-mul_left m power in
      let y : m * 10 ^ z ≤ a * 10 ^ z = mul-le-mul_right (10 ^ z) more in
      rw (min-eq_right {n = m} {m = a} more) (omega arith))
]

-- an exponent beyond which no digit counts any more
grown_large : (n p t m : ℕ) → 0 < n → p + 18 ≤ t → m < 10 ^ 18 → m ≤ n * 10 ^ t / 10 ^ p
grown_large n p t m some far small =
    let a : m * 10 ^ p ≤ 10 ^ 18 * 10 ^ p = mul-le-mul_right (10 ^ p) (omega arith) in
    let b : 10 ^ (18 + p) ≤ 10 ^ t = pow-le-pow_right {n = 10} (omega arith) (omega arith) in
    let c = pow-add 10 18 p in
    let d : 1 * 10 ^ t ≤ n * 10 ^ t = mul-le-mul_right (10 ^ t) (omega arith) in
    le-div m (n * 10 ^ t) (10 ^ p) (power_positive p) (omega arith)

nothing : (t p : ℕ) → 0 * 10 ^ t / 10 ^ p ≡ 0
nothing t p = ap (λ x. x / 10 ^ p) (let e : 0 * 10 ^ t ≡ 0 = omega arith in e) ∙ div-eq_of_lt (power_positive p)

raised_far : (n p e far power m : ℕ) → p + 18 ≤ far → m < 10 ^ 18 → min (n * 10 ^ (min e far + power) / 10 ^ p) m ≡ min (n * 10 ^ (e + power) / 10 ^ p) m
raised_far zero p e far power m h small = ap (λ x. min x m) (nothing (min e far + power) p ∙ sym (nothing (e + power) p))
raised_far (suc n) p e far power m h small = elim (cases_lt e far) [
  | inl less ↦ rw (min-eq_left {n = e} {m = far} (omega arith)) refl
  | inr more ↦ rw (min-eq_right {n = far} {m = e} more) (
      let a = grown_large (suc n) p (far + power) m (omega arith) (omega arith) small in
      let b = grown_large (suc n) p (e + power) m (omega arith) (omega arith) small in
      omega arith)
]

sunk : (n k power t : ℕ) → n < 10 ^ k → k + power ≤ t → n * 10 ^ power / 10 ^ t ≡ 0
sunk n k power t h far =
    let a : n * 10 ^ power < 10 ^ k * 10 ^ power = mul-lt-mul_of_pos_right h (power_positive power) in
    let b = pow-add 10 k power in
    let c : 10 ^ (k + power) ≤ 10 ^ t = pow-le-pow_right {n = 10} (omega arith) far in
    div-eq_of_lt (omega arith)

lowered_far : (n k p e far power : ℕ) → n < 10 ^ k → k + power ≤ far → n * 10 ^ power / 10 ^ (p + min e far) ≡ n * 10 ^ power / 10 ^ (p + e)
lowered_far n k p e far power h le = elim (cases_lt e far) [
  | inl less ↦ rw (min-eq_left {n = e} {m = far} (omega arith)) refl
  | inr more ↦ rw (min-eq_right {n = far} {m = e} more) (sunk n k power (p + far) h (omega arith) ∙ sym (sunk n k power (p + e) h (omega arith)))
]

-- the digits among bytes
digit_small : (b : ℕ) → is_digit b ≡ true → digit_value b < 10
digit_small b h = let e = digit_is b h in grind (arith, nat_tests)

with_digit : (b : ℕ) (ds : List ℕ) (t : Bool) → is_digit b ≡ t → AllDigits 10 ds → AllDigits 10 (cond t (b ∷ ds) ds)
with_digit b ds true e h = (digit_small b e, h)
with_digit b ds false e h = h

-- the digits among bytes are decimal digits
pub all_digits_in : (bs : List ℕ) → AllDigits 10 (digits_in bs)
all_digits_in [] = tt
all_digits_in (b ∷ bs) = with_digit b (digits_in bs) (is_digit b) refl (all_digits_in bs)

fewer : (b : ℕ) (t : Bool) (ds : List ℕ) (n : ℕ) → length ds ≤ n → length (cond t (b ∷ ds) ds) ≤ n + 1
fewer b true ds n h = omega arith
fewer b false ds n h = omega arith

few_digits : (bs : List ℕ) → length (digits_in bs) ≤ length bs
few_digits [] = omega arith
few_digits (b ∷ bs) = let h = fewer b (is_digit b) (digits_in bs) (length bs) (few_digits bs) in omega arith

at_mark : (t : Bool) (b : ℕ) (ds : List ℕ) (n : ℕ) → length ds ≤ n → length (cond t [] (b ∷ ds)) ≤ suc n
at_mark true b ds n h = omega arith
at_mark false b ds n h = omega arith

past_mark : (t : Bool) (bs ds : List ℕ) → length ds ≤ length bs → length (cond t bs ds) ≤ suc (length bs)
past_mark true bs ds h = omega arith
past_mark false bs ds h = omega arith

few_before : (x y : ℕ) (bs : List ℕ) → length (before x y bs) ≤ length bs
few_before x y [] = omega arith
few_before x y (b ∷ bs) = at_mark (is_either x y b) b (before x y bs) (length bs) (few_before x y bs)

few_behind : (x y : ℕ) (bs : List ℕ) → length (behind x y bs) ≤ length bs
few_behind x y [] = omega arith
few_behind x y (b ∷ bs) = past_mark (is_either x y b) bs (behind x y bs) (few_behind x y bs)

kept_size : (text : List ℕ) → digits_value 10 (take (length (exponent text)) (digits_in (exponent text))) ≡ exponent_size text
unfolding exponent_size
kept_size text = ap (digits_value 10) (take_all (length (exponent text)) (digits_in (exponent text)) (few_digits (exponent text)))

-- what the code computes, where the exponent has no minus
pub scaled_up : (text : List ℕ) (power most kept size : ℕ) → power ≤ 8 → most < 10 ^ 18 → starts_with_minus (exponent text) ≡ false
    → size ≡ min (digits_value 10 (take (length (exponent text)) (digits_in (exponent text)))) (length text + 64)
    → kept ≡ (length (digits_in (mantissa text)) + size + power) - length (digits_in (behind 46 46 (mantissa text)))
    → min (min (digits_value 10 (take kept (digits_in (mantissa text)))) most * 10 ^ (kept - length (digits_in (mantissa text)))) most ≡ min (size_at power text) most
unfolding size_at significand raised lowered places
scaled_up text power most kept size h small plus is_size is_kept =
    let ds = digits_in (mantissa text) in
    let p = length (digits_in (behind 46 46 (mantissa text))) in
    let short : p ≤ length text = omega (arith, few_digits (behind 46 46 (mantissa text)), few_behind 46 46 (mantissa text), few_before 101 69 text) in
    let order : (length ds + size + power) - p ≡ (length ds + (size + power)) - p = omega arith in
    let none : p + 0 ≡ p = omega arith in
    rw (plus, none) (
    capped_zeros (digits_value 10 (take kept ds)) most (kept - length ds)
    ∙ ap (λ k. min (digits_value 10 (take k ds) * 10 ^ (k - length ds)) most) (is_kept ∙ order)
    ∙ ap (λ x. min x most) (moved ds (size + power) p (all_digits_in (mantissa text)))
    ∙ ap (λ s. min (digits_value 10 ds * 10 ^ (s + power) / 10 ^ p) most) (is_size ∙ ap (λ s. min s (length text + 64)) (kept_size text))
    ∙ raised_far (digits_value 10 ds) p (exponent_size text) (length text + 64) power most (omega arith) small)

-- and where it has one
pub scaled_down : (text : List ℕ) (power most kept size : ℕ) → power ≤ 8 → most < 10 ^ 18 → starts_with_minus (exponent text) ≡ true
    → size ≡ min (digits_value 10 (take (length (exponent text)) (digits_in (exponent text)))) (length text + 64)
    → kept ≡ (length (digits_in (mantissa text)) + power) - (length (digits_in (behind 46 46 (mantissa text))) + size)
    → min (min (digits_value 10 (take kept (digits_in (mantissa text)))) most * 10 ^ (kept - length (digits_in (mantissa text)))) most ≡ min (size_at power text) most
unfolding size_at significand raised lowered places
scaled_down text power most kept size h small minus is_size is_kept =
    let ds = digits_in (mantissa text) in
    let p = length (digits_in (behind 46 46 (mantissa text))) in
    let short : length ds ≤ length text = omega (arith, few_digits (mantissa text), few_before 101 69 text) in
    let none : 0 + power ≡ power = omega arith in
    let all = all_digits_in (mantissa text) in
    rw (minus, none) (
    capped_zeros (digits_value 10 (take kept ds)) most (kept - length ds)
    ∙ ap (λ k. min (digits_value 10 (take k ds) * 10 ^ (k - length ds)) most) is_kept
    ∙ ap (λ x. min x most) (moved ds power (p + size) all
    ∙ ap (λ s. digits_value 10 ds * 10 ^ power / 10 ^ (p + s)) (is_size ∙ ap (λ s. min s (length text + 64)) (kept_size text))
    ∙ lowered_far (digits_value 10 ds) (length ds) p (exponent_size text) (length text + 64) power (digits_value-lt 10 ds all) (omega arith)))

-- rounding, by the value with one digit more
pub rounded : (a b : ℕ) → 0 < b → (10 * a / b + 5) / 10 ≡ nearest a b
rounded a b h =
    ap (λ x. x / 10) (sym (add-mul-div_left (10 * a) 5 h))
    ∙ div-div-eq-div-mul (10 * a + b * 5) b 10
    ∙ ap (λ x. x / (b * 10)) (let e : 10 * a + b * 5 ≡ 5 * (2 * a + b) = omega arith in e)
    ∙ ap (λ x. 5 * (2 * a + b) / x) (let e : b * 10 ≡ 5 * (2 * b) = omega arith in e)
    ∙ mul-div-mul_left (2 * a + b) (2 * b) (omega arith)

-- the size in units of 10^-7 is the one with a digit more, rounded
pub e7_rounded : (text : List ℕ) → (size_at 8 text + 5) / 10 ≡ e7_size text
unfolding size_at e7_size
e7_rounded text =
    let power : 10 ^ (raised text + 8) ≡ 10 * 10 ^ (raised text + 7) =
    (let s : raised text + 8 ≡ suc (raised text + 7) = omega arith in ap (λ k. 10 ^ k) s ∙ pow-suc 10 (raised text + 7) ∙ omega arith) in
    ap (λ x. (x / 10 ^ lowered text + 5) / 10) (ap (λ x. significand text * x) power
    ∙ (let e : significand text * (10 * 10 ^ (raised text + 7)) ≡ 10 * (significand text * 10 ^ (raised text + 7)) = omega arith in e))
    ∙ rounded (significand text * 10 ^ (raised text + 7)) (10 ^ lowered text) (power_positive (lowered text))

-- the same at the numbers of a bounded size
pub size_bounded : (text : List ℕ) (scaled : ℕ) → scaled ≡ min (size_at 8 text) 20000000010 → (scaled + 5) / 10 ≡ min (e7_size text) 2000000001
size_bounded text scaled h =
    let e = e7_rounded text in
    elim (cases_lt (size_at 8 text) 20000000010) [ inl less ↦ omega arith | inr more ↦ omega arith ]
