-- Each character beyond ASCII, as UTF-8 encodes it, is in the table of its bytes.
use Rattle.std.proofs.Common.{◌≡◌, ℕ, ◌+◌, ◌/◌, ◌%◌, ◌<◌, ◌≤◌, inl, inr, List, [], ◌∷◌, true, false, nat_lt, Some, refl, arith}
use Rattle.std.proofs.lemmas.Bool.Decides.{nat_tests}
use Rattle.std.proofs.lemmas.Bool.{cases_lt}
use lib.Utf8.{encode, scalar, scalar_cases}
use Rattle.ml_json.specs.Characters.{Tail, one, two, three, after_e0, after_ed, after_f0, after_f4, lead, Follows, end, next}
use Rattle.ml_ratio.specs.JsonNumber.{is_between}

-- a character of two bytes
pub two_bytes : (c : ℕ) → 128 ≤ c → c < 2048 → (a b : ℕ) × (encode c ≡ a ∷ b ∷ []) × (lead a ≡ Some one) × Follows (Some one) (b ∷ [])
unfolding encode
two_bytes c h k =
    let e : nat_lt c 128 ≡ false = grind (arith, nat_tests) in
    let f : nat_lt c 2048 ≡ true = grind (arith, nat_tests) in
    let x : is_between 194 223 (192 + c / 64) ≡ true = grind (arith, nat_tests) in
    let y : is_between 128 191 (128 + c % 64) ≡ true = grind (arith, nat_tests) in
    (192 + c / 64, 128 + c % 64, rw (e, f) refl, rw x refl, next y end)

-- a character of three bytes, which is no surrogate, has its first byte in the table, and the others may follow it
pub three_bytes : (c : ℕ) → 2048 ≤ c → c < 65536 → scalar c ≡ true → (a : ℕ) × (cs : List ℕ) × (t : Tail) × (encode c ≡ a ∷ cs) × (lead a ≡ Some t) × Follows (Some t) cs
unfolding encode
three_bytes c h k s =
    let e : nat_lt c 128 ≡ false = grind (arith, nat_tests) in
    let f : nat_lt c 2048 ≡ false = grind (arith, nat_tests) in
    let g : nat_lt c 65536 ≡ true = grind (arith, nat_tests) in
    let y : is_between 128 191 (128 + c / 64 % 64) ≡ true = grind (arith, nat_tests) in
    let z : is_between 128 191 (128 + c % 64) ≡ true = grind (arith, nat_tests) in
    elim (cases_lt c 4096) [
      | inl small ↦ (let x : 224 + c / 4096 ≡ 224 = omega arith in let low : is_between 160 191 (128 + c / 64 % 64) ≡ true = grind (arith, nat_tests) in
          (224 + c / 4096, (128 + c / 64 % 64) ∷ (128 + c % 64) ∷ [], after_e0, rw (e, f, g) refl, rw x refl, next low (next z end)))
      | inr large ↦ elim (cases_lt c 53248) [
        | inl x ↦ (let l : lead (224 + c / 4096) ≡ Some two = grind (arith, nat_tests) in (224 + c / 4096, (128 + c / 64 % 64) ∷ (128 + c % 64) ∷ [], two, rw (e, f, g) refl, l, next y (next z end)))
        | inr x ↦ elim (scalar_cases c s) [
          | inl below ↦ (let q : 224 + c / 4096 ≡ 237 = omega arith in let hi : is_between 128 159 (128 + c / 64 % 64) ≡ true = grind (arith, nat_tests) in
              (224 + c / 4096, (128 + c / 64 % 64) ∷ (128 + c % 64) ∷ [], after_ed, rw (e, f, g) refl, rw q refl, next hi (next z end)))
          | inr above ↦ (let l : lead (224 + c / 4096) ≡ Some two = grind (arith, nat_tests) in
              (224 + c / 4096, (128 + c / 64 % 64) ∷ (128 + c % 64) ∷ [], two, rw (e, f, g) refl, l, next y (next z end)))
        ]
      ]
    ]

-- the same of a character of four bytes, which is at most U+10FFFF
pub four_bytes : (c : ℕ) → 65536 ≤ c → c < 1114112 → (a : ℕ) × (cs : List ℕ) × (t : Tail) × (encode c ≡ a ∷ cs) × (lead a ≡ Some t) × Follows (Some t) cs
unfolding encode
four_bytes c h k =
    let e : nat_lt c 128 ≡ false = grind (arith, nat_tests) in
    let f : nat_lt c 2048 ≡ false = grind (arith, nat_tests) in
    let g : nat_lt c 65536 ≡ false = grind (arith, nat_tests) in
    let x : is_between 128 191 (128 + c / 4096 % 64) ≡ true = grind (arith, nat_tests) in
    let y : is_between 128 191 (128 + c / 64 % 64) ≡ true = grind (arith, nat_tests) in
    let z : is_between 128 191 (128 + c % 64) ≡ true = grind (arith, nat_tests) in
    elim (cases_lt c 262144) [
      | inl small ↦ (let q : 240 + c / 262144 ≡ 240 = omega arith in let lo : is_between 144 191 (128 + c / 4096 % 64) ≡ true = grind (arith, nat_tests) in
          (240 + c / 262144, (128 + c / 4096 % 64) ∷ (128 + c / 64 % 64) ∷ (128 + c % 64) ∷ [], after_f0, rw (e, f, g) refl, rw q refl, next lo (next y (next z end))))
      | inr large ↦ elim (cases_lt c 1048576) [
        | inl mid ↦ (let l : lead (240 + c / 262144) ≡ Some three = grind (arith, nat_tests) in
            (240 + c / 262144, (128 + c / 4096 % 64) ∷ (128 + c / 64 % 64) ∷ (128 + c % 64) ∷ [], three, rw (e, f, g) refl, l, next x (next y (next z end))))
        | inr top ↦ (let q : 240 + c / 262144 ≡ 244 = omega arith in let hi : is_between 128 143 (128 + c / 4096 % 64) ≡ true = grind (arith, nat_tests) in
            (240 + c / 262144, (128 + c / 4096 % 64) ∷ (128 + c / 64 % 64) ∷ (128 + c % 64) ∷ [], after_f4, rw (e, f, g) refl, rw q refl, next hi (next y (next z end))))
      ]
    ]
