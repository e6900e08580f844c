-- The bytes of the table are UTF-8.
use Rattle.std.proofs.Common.{◌≡◌, ℕ, ◌+◌, ◌-◌, ◌*◌, ◌/◌, ◌%◌, ◌<◌, ◌≤◌, ◌⊎◌, List, [], ◌∷◌, true, false, nat_lt, Some, refl, ◌∙◌, arith, inl, inr, ◌≢◌, append-nil}
use Rattle.std.proofs.lemmas.Str.{is_utf8-from_IsUtf8}
use Rattle.std.proofs.lemmas.Bool.{cases_lt}
use Rattle.std.proofs.lemmas.Bool.Decides.{nat_tests}
use Rattle.std.specs.Str.{IsUtf8, is_utf8}
use lib.Utf8.{encode, scalar}
use Rattle.ml_json.specs.Characters.{Tail, one, two, three, after_e0, after_ed, after_f0, after_f4, lead, Follows, end, next}
use Rattle.ml_ratio.specs.JsonNumber.{is_between}

scalar_low : (c : ℕ) → c < 55296 → scalar c ≡ true
scalar_low c h = grind (arith, nat_tests)

encode_two : (a b : ℕ) → 194 ≤ a → a ≤ 223 → 128 ≤ b → b ≤ 191 → encode ((a - 192) * 64 + (b - 128)) ≡ a ∷ b ∷ []
unfolding encode
encode_two a b h k l n =
    let c = (a - 192) * 64 + (b - 128) in
    let e : nat_lt ((a - 192) * 64 + (b - 128)) 128 ≡ false = grind (arith, nat_tests) in
    let f : nat_lt ((a - 192) * 64 + (b - 128)) 2048 ≡ true = grind (arith, nat_tests) in
    let x : 192 + ((a - 192) * 64 + (b - 128)) / 64 ≡ a = omega arith in
    let y : 128 + ((a - 192) * 64 + (b - 128)) % 64 ≡ b = omega arith in
    rw (e, f, x, y) refl

-- the number of three bytes and of four
abbrev of_three : ℕ → ℕ → ℕ → ℕ
of_three a b d = ((a - 224) * 64 + (b - 128)) * 64 + (d - 128)

abbrev of_four : ℕ → ℕ → ℕ → ℕ → ℕ
of_four a b d e = (((a - 240) * 64 + (b - 128)) * 64 + (d - 128)) * 64 + (e - 128)

encode_three : (a b d : ℕ) → 224 ≤ a → a ≤ 239 → 128 ≤ b → b ≤ 191 → 128 ≤ d → d ≤ 191 → (a ≡ 224 → 160 ≤ b) → encode (of_three a b d) ≡ a ∷ b ∷ d ∷ []
unfolding encode
encode_three a b d h k l n p q r =
    let large : 2048 ≤ of_three a b d = elim (cases_lt 224 a) [ inl x ↦ omega arith | inr x ↦ (let q : 160 ≤ b = r (omega arith) in omega arith) ] in
    let small : of_three a b d < 65536 = omega arith in
    let e : nat_lt (of_three a b d) 128 ≡ false = grind (arith, nat_tests) in
    let f : nat_lt (of_three a b d) 2048 ≡ false = grind (arith, nat_tests) in
    let g : nat_lt (of_three a b d) 65536 ≡ true = grind (arith, nat_tests) in
    let x : 224 + of_three a b d / 4096 ≡ a = omega arith in
    let y : 128 + of_three a b d / 64 % 64 ≡ b = omega arith in
    let z : 128 + of_three a b d % 64 ≡ d = omega arith in
    rw (e, f, g, x, y, z) refl

encode_four : (a b d i : ℕ) → 240 ≤ a → a ≤ 244 → 128 ≤ b → b ≤ 191 → 128 ≤ d → d ≤ 191 → 128 ≤ i → i ≤ 191 → (a ≡ 240 → 144 ≤ b) → encode (of_four a b d i) ≡ a ∷ b ∷ d ∷ i ∷ []
unfolding encode
encode_four a b d i h k l n p q s t r =
    let large : 65536 ≤ of_four a b d i = elim (cases_lt 240 a) [ inl x ↦ omega arith | inr x ↦ (let u : 144 ≤ b = r (omega arith) in omega arith) ] in
    let e : nat_lt (of_four a b d i) 128 ≡ false = grind (arith, nat_tests) in
    let f : nat_lt (of_four a b d i) 2048 ≡ false = grind (arith, nat_tests) in
    let g : nat_lt (of_four a b d i) 65536 ≡ false = grind (arith, nat_tests) in
    let w : 240 + of_four a b d i / 262144 ≡ a = omega arith in
    let x : 128 + of_four a b d i / 4096 % 64 ≡ b = omega arith in
    let y : 128 + of_four a b d i / 64 % 64 ≡ d = omega arith in
    let z : 128 + of_four a b d i % 64 ≡ i = omega arith in
    rw (e, f, g, w, x, y, z) refl

one_char : (c : ℕ) (bs : List ℕ) → scalar c ≡ true → encode c ≡ bs → IsUtf8 bs
one_char c bs h e = (c ∷ [], (rw h refl, append-nil (encode c) ∙ e))

scalar_three : (a b d : ℕ) → 224 ≤ a → a ≤ 239 → 128 ≤ b → b ≤ 191 → 128 ≤ d → d ≤ 191 → (a ≡ 237 → b ≤ 159) → scalar (of_three a b d) ≡ true
scalar_three a b d h k l n p q r =
    let small : of_three a b d < 65536 = omega arith in
    let out : (of_three a b d < 55296) ⊎ (57344 ≤ of_three a b d) =
    elim (cases_lt a 237) [ inl x ↦ inl (omega arith) | inr x ↦ elim (cases_lt a 238) [ inl y ↦ (let u : b ≤ 159 = r (omega arith) in inl (omega arith)) | inr y ↦ inr (omega arith) ] ] in
    elim out [ inl x ↦ grind (arith, nat_tests) | inr x ↦ grind (arith, nat_tests) ]

scalar_four : (a b d i : ℕ) → 240 ≤ a → a ≤ 244 → 128 ≤ b → b ≤ 191 → 128 ≤ d → d ≤ 191 → 128 ≤ i → i ≤ 191 → (a ≡ 240 → 144 ≤ b) → (a ≡ 244 → b ≤ 143) → scalar (of_four a b d i) ≡ true
scalar_four a b d i h k l n p q s t r v =
    let large : 65536 ≤ of_four a b d i = elim (cases_lt 240 a) [ inl x ↦ omega arith | inr x ↦ (let u : 144 ≤ b = r (omega arith) in omega arith) ] in
    let small : of_four a b d i < 1114112 = elim (cases_lt a 244) [ inl x ↦ omega arith | inr x ↦ (let u : b ≤ 143 = v (omega arith) in omega arith) ] in
    grind (arith, nat_tests)

between_low : (n k b : ℕ) → is_between n k b ≡ true → n ≤ b
between_low n k b h = grind (arith, nat_tests)

between_high : (n k b : ℕ) → is_between n k b ≡ true → b ≤ k
between_high n k b h = grind (arith, nat_tests)

lead_one : (a : ℕ) → lead a ≡ Some one → (194 ≤ a) × (a ≤ 223)
lead_one a h = (grind (arith, nat_tests), grind (arith, nat_tests))

lead_two : (a : ℕ) → lead a ≡ Some two → (225 ≤ a) × (a ≤ 239) × (a ≢ 237)
lead_two a h = (grind (arith, nat_tests), grind (arith, nat_tests), λ e. grind (arith, nat_tests))

lead_three : (a : ℕ) → lead a ≡ Some three → (241 ≤ a) × (a ≤ 243)
lead_three a h = (grind (arith, nat_tests), grind (arith, nat_tests))

lead_e0 : (a : ℕ) → lead a ≡ Some after_e0 → a ≡ 224
lead_e0 a h = grind (arith, nat_tests)

lead_ed : (a : ℕ) → lead a ≡ Some after_ed → a ≡ 237
lead_ed a h = grind (arith, nat_tests)

lead_f0 : (a : ℕ) → lead a ≡ Some after_f0 → a ≡ 240
lead_f0 a h = grind (arith, nat_tests)

lead_f4 : (a : ℕ) → lead a ≡ Some after_f4 → a ≡ 244
lead_f4 a h = grind (arith, nat_tests)

-- a byte within its bounds
byte : (n k b : ℕ) → is_between n k b ≡ true → (n ≤ b) × (b ≤ k)
byte n k b h = (between_low n k b h, between_high n k b h)

table : (a : ℕ) (t : Tail) {cs : List ℕ} → lead a ≡ Some t → Follows (Some t) cs → IsUtf8 (a ∷ cs)
table a one h (next {b = b} x end) =
    let l = lead_one a h in let p = byte 128 191 b x in
    one_char ((a - 192) * 64 + (b - 128)) (a ∷ b ∷ []) (scalar_low ((a - 192) * 64 + (b - 128)) (omega arith)) (encode_two a b l.0 l.1 p.0 p.1)
table a two h (next {b = b} x (next {b = d} y end)) =
    let l = lead_two a h in let p = byte 128 191 b x in let q = byte 128 191 d y in
    one_char (of_three a b d) _ (scalar_three a b d (omega arith) l.1 p.0 p.1 q.0 q.1 (λ e. absurd (l.2 e))) (encode_three a b d (omega arith) l.1 p.0 p.1 q.0 q.1 (λ e. omega arith))
table a after_e0 h (next {b = b} x (next {b = d} y end)) =
    let l = lead_e0 a h in let p = byte 160 191 b x in let q = byte 128 191 d y in
    one_char (of_three a b d) _ (scalar_three a b d (omega arith) (omega arith) (omega arith) p.1 q.0 q.1 (λ e. omega arith))
    (encode_three a b d (omega arith) (omega arith) (omega arith) p.1 q.0 q.1 (λ e. p.0))
table a after_ed h (next {b = b} x (next {b = d} y end)) =
    let l = lead_ed a h in let p = byte 128 159 b x in let q = byte 128 191 d y in
    one_char (of_three a b d) _ (scalar_three a b d (omega arith) (omega arith) p.0 (omega arith) q.0 q.1 (λ e. p.1))
    (encode_three a b d (omega arith) (omega arith) p.0 (omega arith) q.0 q.1 (λ e. omega arith))
table a three h (next {b = b} x (next {b = d} y (next {b = i} z end))) =
    let l = lead_three a h in let p = byte 128 191 b x in let q = byte 128 191 d y in let r = byte 128 191 i z in
    one_char (of_four a b d i) _ (scalar_four a b d i (omega arith) (omega arith) p.0 p.1 q.0 q.1 r.0 r.1 (λ e. omega arith) (λ e. omega arith))
    (encode_four a b d i (omega arith) (omega arith) p.0 p.1 q.0 q.1 r.0 r.1 (λ e. omega arith))
table a after_f0 h (next {b = b} x (next {b = d} y (next {b = i} z end))) =
    let l = lead_f0 a h in let p = byte 144 191 b x in let q = byte 128 191 d y in let r = byte 128 191 i z in
    one_char (of_four a b d i) _ (scalar_four a b d i (omega arith) (omega arith) (omega arith) p.1 q.0 q.1 r.0 r.1 (λ e. p.0) (λ e. omega arith))
    (encode_four a b d i (omega arith) (omega arith) (omega arith) p.1 q.0 q.1 r.0 r.1 (λ e. p.0))
table a after_f4 h (next {b = b} x (next {b = d} y (next {b = i} z end))) =
    let l = lead_f4 a h in let p = byte 128 143 b x in let q = byte 128 191 d y in let r = byte 128 191 i z in
    one_char (of_four a b d i) _ (scalar_four a b d i (omega arith) (omega arith) p.0 (omega arith) q.0 q.1 r.0 r.1 (λ e. omega arith) (λ e. p.1))
    (encode_four a b d i (omega arith) (omega arith) p.0 (omega arith) q.0 q.1 r.0 r.1 (λ e. omega arith))

-- a first byte and the bytes that the table lets follow it are UTF-8
pub table_utf8 : (a : ℕ) (t : Tail) (cs : List ℕ) → lead a ≡ Some t → Follows (Some t) cs → is_utf8 (a ∷ cs) ≡ true
table_utf8 a t cs h f = is_utf8-from_IsUtf8 (a ∷ cs) (table a t h f)
