-- The bytes of characters are in the order of the characters.
use Rattle.std.proofs.Common.{◌≡◌, ℕ, ◌+◌, ◌/◌, ◌%◌, ◌<◌, ◌≤◌, List, [], ◌∷◌, true, false, nat_lt, refl, sym, ap, ◌∙◌, arith, inl, inr}
use Rattle.std.proofs.lemmas.Bool.Decides.{nat_tests}
use Rattle.std.proofs.lemmas.Bool.{cases_lt, cases_order}
use Rattle.std.proofs.lemmas.Cmp.{nat_list_cmp_total}
use Rattle.std.specs.Cmp.{tied_itself}
use Rattle.std.specs.Cmp.Lexicographic.{slice_cmp}
use Rattle.std.specs.Ordering.{nat_cmp, ordering_reverse}
use Rattle.std.specs.declared.cmp.Ordering.TheVariants.{Less, Equal, Greater}
use lib.Utf8.{encode}

-- texts in byte order
abbrev IsBefore : List ℕ → List ℕ → Type 0
IsBefore xs ys = slice_cmp nat_cmp xs ys ≡ Less

-- the first byte decides, or what follows where it is the same
at_head : (x y : ℕ) (xs ys : List ℕ) → x < y → IsBefore (x ∷ xs) (y ∷ ys)
at_head x y xs ys h = let e : nat_cmp x y ≡ Less = grind (arith, nat_tests) in rw e refl

past_head : (x y : ℕ) (xs ys : List ℕ) → x ≤ y → (x ≡ y → IsBefore xs ys) → IsBefore (x ∷ xs) (y ∷ ys)
past_head x y xs ys h more =
    elim (cases_lt x y) [
      | inl less ↦ at_head x y xs ys less
      | inr same ↦ (let e : x ≡ y = omega arith in let t : nat_cmp x y ≡ Equal = grind (arith, nat_tests) in rw t (more e))
    ]

one : (a : ℕ) → a < 128 → encode a ≡ a ∷ []
unfolding encode
one a h = let e : nat_lt a 128 ≡ true = grind (arith, nat_tests) in rw e refl

abbrev last : ℕ → ℕ
last a = 128 + a % 64

two : (a : ℕ) → 128 ≤ a → a < 2048 → encode a ≡ (192 + a / 64) ∷ last a ∷ []
unfolding encode
two a h k =
    let e : nat_lt a 128 ≡ false = grind (arith, nat_tests) in
    let f : nat_lt a 2048 ≡ true = grind (arith, nat_tests) in
    rw (e, f) refl

three : (a : ℕ) → 2048 ≤ a → a < 65536 → encode a ≡ (224 + a / 4096) ∷ last (a / 64) ∷ last a ∷ []
unfolding encode
three a h k =
    let e : nat_lt a 128 ≡ false = grind (arith, nat_tests) in
    let f : nat_lt a 2048 ≡ false = grind (arith, nat_tests) in
    let g : nat_lt a 65536 ≡ true = grind (arith, nat_tests) in
    rw (e, f, g) refl

four : (a : ℕ) → 65536 ≤ a → encode a ≡ (240 + a / 262144) ∷ last (a / 4096) ∷ last (a / 64) ∷ last a ∷ []
unfolding encode
four a h =
    let e : nat_lt a 128 ≡ false = grind (arith, nat_tests) in
    let f : nat_lt a 2048 ≡ false = grind (arith, nat_tests) in
    let g : nat_lt a 65536 ≡ false = grind (arith, nat_tests) in
    rw (e, f, g) refl

-- of numbers that agree but for their last six bits
last_rises : (a b : ℕ) → a < b → a / 64 ≡ b / 64 → IsBefore (last a ∷ []) (last b ∷ [])
last_rises a b h e = at_head (last a) (last b) [] [] (omega arith)

from_one : (a b : ℕ) → a < 128 → a < b → IsBefore (encode a) (encode b)
from_one a b k h =
    elim (cases_lt b 128) [
      | inl x ↦ rw (one a k, one b x) (at_head a b [] [] h)
      | inr x ↦ elim (cases_lt b 2048) [
        | inl y ↦ rw (one a k, two b x y) (at_head a (192 + b / 64) [] (last b ∷ []) (omega arith))
        | inr y ↦ elim (cases_lt b 65536) [
          | inl z ↦ rw (one a k, three b y z) (at_head a (224 + b / 4096) [] (last (b / 64) ∷ last b ∷ []) (omega arith))
          | inr z ↦ rw (one a k, four b z) (at_head a (240 + b / 262144) [] (last (b / 4096) ∷ last (b / 64) ∷ last b ∷ []) (omega arith))
        ]
      ]
    ]

from_two : (a b : ℕ) → 128 ≤ a → a < 2048 → a < b → IsBefore (encode a) (encode b)
from_two a b l k h =
    elim (cases_lt b 2048) [
      | inl y ↦ rw (two a l k, two b (omega arith) y) (past_head (192 + a / 64) (192 + b / 64) (last a ∷ []) (last b ∷ []) (omega arith) (λ e. last_rises a b h (omega arith)))
      | inr y ↦ elim (cases_lt b 65536) [
        | inl z ↦ rw (two a l k, three b y z) (at_head (192 + a / 64) (224 + b / 4096) (last a ∷ []) (last (b / 64) ∷ last b ∷ []) (omega arith))
        | inr z ↦ rw (two a l k, four b z) (at_head (192 + a / 64) (240 + b / 262144) (last a ∷ []) (last (b / 4096) ∷ last (b / 64) ∷ last b ∷ []) (omega arith))
      ]
    ]

-- of numbers that agree but for their last twelve bits
last_two_rise : (a b : ℕ) → a < b → a / 4096 ≡ b / 4096 → IsBefore (last (a / 64) ∷ last a ∷ []) (last (b / 64) ∷ last b ∷ [])
last_two_rise a b h e = past_head (last (a / 64)) (last (b / 64)) (last a ∷ []) (last b ∷ []) (omega arith) (λ f. last_rises a b h (omega arith))

from_three : (a b : ℕ) → 2048 ≤ a → a < 65536 → a < b → IsBefore (encode a) (encode b)
from_three a b l k h =
    elim (cases_lt b 65536) [
      | inl z ↦ rw (three a l k, three b (omega arith) z) (past_head (224 + a / 4096) (224 + b / 4096)
          (last (a / 64) ∷ last a ∷ []) (last (b / 64) ∷ last b ∷ []) (omega arith) (λ e. last_two_rise a b h (omega arith)))
      | inr z ↦ rw (three a l k, four b z) (at_head (224 + a / 4096) (240 + b / 262144) (last (a / 64) ∷ last a ∷ []) (last (b / 4096) ∷ last (b / 64) ∷ last b ∷ []) (omega arith))
    ]

from_four : (a b : ℕ) → 65536 ≤ a → a < b → IsBefore (encode a) (encode b)
from_four a b l h =
    rw (four a l, four b (omega arith)) (past_head (240 + a / 262144) (240 + b / 262144) (last (a / 4096) ∷ last (a / 64) ∷ last a ∷ []) (last (b / 4096) ∷ last (b / 64) ∷ last b ∷ []) (omega arith)
    (λ e. past_head (last (a / 4096)) (last (b / 4096)) (last (a / 64) ∷ last a ∷ []) (last (b / 64) ∷ last b ∷ []) (omega arith) (λ f. last_two_rise a b h (omega arith))))

rises : (a b : ℕ) → a < b → IsBefore (encode a) (encode b)
rises a b h =
    elim (cases_lt a 128) [
      | inl x ↦ from_one a b x h
      | inr x ↦ elim (cases_lt a 2048) [
        | inl y ↦ from_two a b x y h
        | inr y ↦ elim (cases_lt a 65536) [ inl z ↦ from_three a b y z h | inr z ↦ from_four a b z h ]
      ]
    ]

-- where the bytes come before, the character does
pub less_from_bytes : (a b : ℕ) → slice_cmp nat_cmp (encode a) (encode b) ≡ Less → nat_cmp a b ≡ Less
less_from_bytes a b h =
    elim (cases_order a b) [
      | inl same ↦ (let e : slice_cmp nat_cmp (encode a) (encode b) ≡ Equal = rw same (tied_itself nat_list_cmp_total (encode b)) in absurd (let no : Less ≡ Equal = sym h ∙ e in cc))
      | inr (inl less) ↦ grind (arith, nat_tests)
      | inr (inr more) ↦ (let e : slice_cmp nat_cmp (encode a) (encode b) ≡ Greater = nat_list_cmp_total.antisymm (encode a) (encode b)
          ∙ ap ordering_reverse (rises b a more) in absurd (let no : Less ≡ Greater = sym h ∙ e in cc))
    ]
