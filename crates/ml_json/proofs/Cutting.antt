-- Digits read up to a cut, and a bound on the number.
use Rattle.std.proofs.Common.{◌≡◌, ℕ, zero, suc, ◌+◌, ◌-◌, ◌*◌, ◌^◌, ◌<◌, ◌≤◌, List, [], ◌∷◌, ◌++◌, length, take, drop, get_or}
use Rattle.std.proofs.Common.{min, true, false, refl, sym, ◌∙◌, ap, arith, add-one, inl, inr, append-nil, append_assoc}
use Rattle.std.proofs.Math.Nat.{min-eq_left, min-eq_right, pow-suc, one-le-pow, mul-le-mul_left, mul-le-mul_right}
use Rattle.std.proofs.Math.Seq.{drop-cons}
use Rattle.std.proofs.lemmas.List.{take_more}
use Rattle.std.proofs.lemmas.Bool.{cases_lt}
use Rattle.std.proofs.lemmas.Bool.Decides.{nat_tests}
use Rattle.std.specs.Char.{digit_value}
use Rattle.std.specs.Str.Parse.{digits_value_after}
use Rattle.ml_ratio.specs.JsonNumber.{is_digit}
use Rattle.ml_json.specs.Decimal.{is_either, before, behind, digits_in}

next_byte : (text : List ℕ) (at : ℕ) → at < length text → drop at text ≡ get_or text at 0 ∷ drop (at + 1) text
next_byte text at h = drop-cons text at 0 h ∙ ap (λ n. get_or text at 0 ∷ drop n text) (sym (add-one at))

take_next : (text : List ℕ) (at : ℕ) (rest : List ℕ) → at < length text → take at text ++ get_or text at 0 ∷ rest ≡ take (at + 1) text ++ rest
take_next text at rest h = sym (append_assoc (take at text) (get_or text at 0 ∷ []) rest) ∙ ap (λ x. x ++ rest) (sym (take_more text at 0 h))

-- no mark here
pub before_more : (x y : ℕ) (text : List ℕ) (at : ℕ) → at < length text → is_either x y (get_or text at 0) ≡ false →
    take at text ++ before x y (drop at text) ≡ take (at + 1) text ++ before x y (drop (at + 1) text)
before_more x y text at h e = ap (λ s. take at text ++ before x y s) (next_byte text at h) ∙ rw e (take_next text at (before x y (drop (at + 1) text)) h)

-- where the byte is no mark, what stands behind the mark is looked for from the next byte on
pub behind_more : (x y : ℕ) (text : List ℕ) (at : ℕ) → at < length text → is_either x y (get_or text at 0) ≡ false → behind x y (drop at text) ≡ behind x y (drop (at + 1) text)
behind_more x y text at h e = ap (behind x y) (next_byte text at h) ∙ rw e refl

-- a mark here
pub before_here : (x y : ℕ) (text : List ℕ) (at : ℕ) → at < length text → is_either x y (get_or text at 0) ≡ true → take at text ++ before x y (drop at text) ≡ take at text
before_here x y text at h e = ap (λ s. take at text ++ before x y s) (next_byte text at h) ∙ rw e (append-nil (take at text))

-- where it is a mark, what stands behind the mark begins at the next byte
pub behind_here : (x y : ℕ) (text : List ℕ) (at : ℕ) → at < length text → is_either x y (get_or text at 0) ≡ true → behind x y (drop at text) ≡ drop (at + 1) text
behind_here x y text at h e = ap (behind x y) (next_byte text at h) ∙ rw e refl

-- the value of a decimal digit
pub digit_is : (b : ℕ) → is_digit b ≡ true → digit_value b ≡ b - 48
digit_is b h = grind (arith, nat_tests)

-- a bound on a number with one digit more
capped_digit : (a v m : ℕ) → min (10 * min a m + v) m ≡ min (a * 10 + v) m
capped_digit a v m = omega arith

capped_first : (a b m : ℕ) (ds : List ℕ) → min a m ≡ min b m → min (digits_value_after 10 a ds) m ≡ min (digits_value_after 10 b ds) m
capped_first a b m [] h = h
capped_first a b m (d ∷ ds) h = capped_first (a * 10 + digit_value d) (b * 10 + digit_value d) m ds (omega (arith, h))

-- a digit more, kept within a bound
pub capped_more : (n v m : ℕ) (ds : List ℕ) → min (digits_value_after 10 (min (10 * n + v) m) ds) m ≡ min (digits_value_after 10 (n * 10 + v) ds) m
capped_more n v m ds = capped_first (min (10 * n + v) m) (n * 10 + v) m ds (omega arith)

-- a byte that is a digit, and one that is none
pub digit_next : (n left most : ℕ) (text : List ℕ) (at : ℕ) → at < length text → 0 < left →
    is_digit (get_or text at 0) ≡ true → min (digits_value_after 10 n (take left (digits_in (drop at text)))) most
    ≡ min (digits_value_after 10 (min (10 * n + (get_or text at 0 - 48)) most) (take (left - 1) (digits_in (drop (at + 1) text)))) most
digit_next n zero most text at h l e = absurd (omega arith)
digit_next n (suc left) most text at h l e =
    let one : suc left - 1 ≡ left = omega arith in
    ap (λ s. min (digits_value_after 10 n (take (suc left) (digits_in s))) most) (next_byte text at h)
    ∙ rw (e, one, digit_is (get_or text at 0) e) (sym (capped_more n (get_or text at 0 - 48) most (take left (digits_in (drop (at + 1) text)))))

-- a byte that is no digit changes neither the number so far nor how many digits are left
pub other_next : (n left most : ℕ) (text : List ℕ) (at : ℕ) → at < length text → is_digit (get_or text at 0) ≡ false
    → min (digits_value_after 10 n (take left (digits_in (drop at text)))) most ≡ min (digits_value_after 10 n (take left (digits_in (drop (at + 1) text)))) most
other_next n left most text at h e = ap (λ s. min (digits_value_after 10 n (take left (digits_in s))) most) (next_byte text at h) ∙ rw e refl

-- a zero more, kept within a bound
pub zero_more : (n left most : ℕ) → 0 < left → min (min (10 * n) most * 10 ^ (left - 1)) most ≡ min (n * 10 ^ left) most
zero_more n zero most h = absurd (omega arith)
zero_more n (suc left) most h =
    let one : suc left - 1 ≡ left = omega arith in
    rw (one, pow-suc 10 left) (elim (cases_lt (10 * n) most) [
      | inl less ↦ rw (min-eq_left {n = 10 * n} {m = most} (omega arith)) (ap (λ x. min x most) (let e : 10 * n * 10 ^ left ≡ n * (10 ^ left * 10) = omega arith in e))
      | inr more ↦ (
          let power = one-le-pow left 10 (omega arith) in
          let a : most * 1 ≤ most * 10 ^ left = mul-le-mul_left most power in
          let b : most * 10 ^ left ≤ (10 * n) * 10 ^ left = mul-le-mul_right (10 ^ left) more in
          let e : 10 * n * 10 ^ left ≡ n * (10 ^ left * 10) = omega arith in
          rw (min-eq_right {n = most} {m = 10 * n} more) (omega arith))
    ])

-- at the bound zeros change nothing
pub zeros_full : (n left most : ℕ) → n ≤ most → most ≤ n → n ≡ min (n * 10 ^ left) most
zeros_full n left most h k =
    let power = one-le-pow left 10 (omega arith) in
    let a : n * 1 ≤ n * 10 ^ left = mul-le-mul_left n power in
    omega arith
