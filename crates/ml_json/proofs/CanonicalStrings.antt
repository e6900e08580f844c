-- A string's canonical text reads back.
use Rattle.ml_json.specs.Canonical.{hex_byte, byte_on, bytes_on}
use Rattle.std.proofs.Common.{◌≡◌, ℕ, ◌+◌, ◌*◌, ◌/◌, ◌%◌, ◌<◌, ◌≤◌, inl, inr, List, [], ◌∷◌, ◌++◌, Bool, true, false, nat_lt, ◌==◌, ◌&&◌, Option, Some, None, refl, sym, ◌∙◌, ap, subst, arith}
use Rattle.std.proofs.lemmas.Bool.Decides.{nat_tests}
use Rattle.std.specs.Str.{IsUtf8}
use lib.Utf8.{encode, scalar, scalars, encodes}
use Rattle.ml_json.specs.Strings.{Piece, char, unit, Written, quote, plain, longer, short, code, text_of, escaped, hex_digit, Hex, no_hex, hex, is_plain, single, is_high}
use Rattle.ml_json.specs.Characters.{lead, Follows, Tail, end, next, low, high, one}
use Rattle.ml_ratio.specs.JsonNumber.{is_between}
use Rattle.ml_json.proofs.RunsRead.{by_cases}
use Rattle.ml_json.proofs.DepthRuns.{low_large}
use Rattle.ml_json.proofs.StringRuns.{lead_large}
use Rattle.ml_json.proofs.EncodeTable.{two_bytes, three_bytes, four_bytes}
use Rattle.std.proofs.lemmas.Bool.{cases_lt}
use lib.Utf8.{scalar_cases}

and_left : (a b : Bool) → (a && b) ≡ true → a ≡ true
and_left true b h = refl
and_left false b h = h

and_right : (a b : Bool) → (a && b) ≡ true → b ≡ true
and_right true b h = h
and_right false b h = absurd (cc)

scalar_small : (c : ℕ) → scalar c ≡ true → c < 1114112
scalar_small c h = elim (scalar_cases c h) [ inl x ↦ omega arith | inr x ↦ x.1 ]

-- two strings that are joined are written one behind the other
pub bytes_append : (s t r : List ℕ) → bytes_on (s ++ t) r ≡ bytes_on s (bytes_on t r)
bytes_append [] t r = refl
bytes_append (b ∷ s) t r = ap (byte_on b) (bytes_append s t r)

-- one more piece of text in front
abbrev pub Reading : List ℕ → List ℕ → List ℕ → Type 0
Reading s x r = (us : List Piece) × Written us x r × (text_of None us ≡ s)

abbrev OneMore : ℕ → List ℕ → List ℕ → List ℕ → Type 0
OneMore b s r x = Reading (b ∷ s) x r

hex_reads : (d : ℕ) → d < 16 → hex_digit (hex_byte d) ≡ Some d
hex_reads d h = grind (arith, nat_tests)

escape_one : (e b : ℕ) (s y r : List ℕ) → escaped e ≡ Some b → Reading s y r → Reading (b ∷ s) (92 ∷ e ∷ y) r
escape_one e b s y r h (us, w, t) = (char (b ∷ []) ∷ us, short h w, ap (λ z. b ∷ z) t)

low_single : (b : ℕ) → b < 32 → single b ≡ b ∷ []
unfolding encode
low_single b h =
    let a : nat_lt b 128 ≡ true = grind (arith, nat_tests) in
    let l : is_between 0xDC00 0xDFFF b ≡ false = grind (arith, nat_tests) in
    rw (l, a) refl

code_one : (b : ℕ) (s y r : List ℕ) → b < 32 → Reading s y r → Reading (b ∷ s) (92 ∷ 117 ∷ 48 ∷ 48 ∷ hex_byte (b / 16) ∷ hex_byte (b % 16) ∷ y) r
code_one b s y r h (us, w, t) =
    let one : b / 16 < 16 = omega arith in
    let two : b % 16 < 16 = omega arith in
    let sum : 16 * (16 * (16 * (16 * 0 + 0) + 0) + b / 16) + b % 16 ≡ b = omega arith in
    let not_high : is_high b ≡ false = grind (arith, nat_tests) in (
      unit b ∷ us,
      code (hex refl (hex refl (hex (hex_reads (b / 16) one) (hex (hex_reads (b % 16) two) (subst (λ u. Hex 0 (16 * (16 * (16 * (16 * 0 + 0) + 0) + b / 16) + b % 16) u y y) sum no_hex))))) w,
      rw not_high (ap (λ z. z ++ text_of None us) (low_single b h) ∙ ap (λ z. b ∷ z) t),
    )

plain_byte : (b : ℕ) → (b == 34) ≡ false → (b == 92) ≡ false → nat_lt b 32 ≡ false → b < 128 → is_plain b ≡ true
plain_byte b h k l n = grind (arith, nat_tests)

ascii_one : (b : ℕ) (s y r : List ℕ) → b < 128 → Reading s y r → Reading (b ∷ s) (byte_on b y) r
ascii_one b s y r h g =
    let P : List ℕ → Type 0 = OneMore b s r in
    by_cases P (b == 34) _ _ (λ e. escape_one 34 b s y r (let k : b ≡ 34 = grind (arith, nat_tests) in ap (λ x. Some x) (sym k)) g)
    (λ quoted. by_cases P (b == 92) _ _ (λ e. escape_one 92 b s y r (let k : b ≡ 92 = grind (arith, nat_tests) in ap (λ x. Some x) (sym k)) g)
    (λ slash. by_cases P (b == 8) _ _ (λ e. escape_one 98 b s y r (let k : b ≡ 8 = grind (arith, nat_tests) in ap (λ x. Some x) (sym k)) g)
    (λ _. by_cases P (b == 9) _ _ (λ e. escape_one 116 b s y r (let k : b ≡ 9 = grind (arith, nat_tests) in ap (λ x. Some x) (sym k)) g)
    (λ _. by_cases P (b == 10) _ _ (λ e. escape_one 110 b s y r (let k : b ≡ 10 = grind (arith, nat_tests) in ap (λ x. Some x) (sym k)) g)
    (λ _. by_cases P (b == 12) _ _ (λ e. escape_one 102 b s y r (let k : b ≡ 12 = grind (arith, nat_tests) in ap (λ x. Some x) (sym k)) g)
    (λ _. by_cases P (b == 13) _ _ (λ e. escape_one 114 b s y r (let k : b ≡ 13 = grind (arith, nat_tests) in ap (λ x. Some x) (sym k)) g)
    (λ _. by_cases P (nat_lt b 32) _ _ (λ e. code_one b s y r (grind (arith, nat_tests)) g)
    (λ large. (char (b ∷ []) ∷ g.0, plain (plain_byte b quoted slash large h) g.1, ap (λ z. b ∷ z) g.2)))))))))

raw_byte : (b : ℕ) (r : List ℕ) → 128 ≤ b → byte_on b r ≡ b ∷ r
raw_byte b r h =
    let a : (b == 34) ≡ false = grind (arith, nat_tests) in
    let c : (b == 92) ≡ false = grind (arith, nat_tests) in
    let d : (b == 8) ≡ false = grind (arith, nat_tests) in
    let e : (b == 9) ≡ false = grind (arith, nat_tests) in
    let f : (b == 10) ≡ false = grind (arith, nat_tests) in
    let g : (b == 12) ≡ false = grind (arith, nat_tests) in
    let i : (b == 13) ≡ false = grind (arith, nat_tests) in
    let j : nat_lt b 32 ≡ false = grind (arith, nat_tests) in
    rw (a, c, d, e, f, g, i, j) refl

at_least : (t : Tail) (b : ℕ) → is_between (low t) (high t) b ≡ true → 128 ≤ b
at_least t b h = let l = low_large t in grind (arith, nat_tests)

raw_follows : {o : Option Tail} {cs : List ℕ} (r : List ℕ) → Follows o cs → bytes_on cs r ≡ cs ++ r
raw_follows r end = refl
raw_follows r (next {t} {b} {bs} h f) = raw_byte b (bytes_on bs r) (at_least t b h) ∙ ap (λ x. b ∷ x) (raw_follows r f)

long_one : (c a : ℕ) (cs : List ℕ) (t : Tail) (s y r : List ℕ) → encode c ≡ a ∷ cs → lead a ≡ Some t → Follows (Some t) cs → Reading s y r → Reading (encode c ++ s) (bytes_on (encode c) y) r
long_one c a cs t s y r e l f (us, w, q) =
    let raw : bytes_on (a ∷ cs) y ≡ a ∷ (cs ++ y) = raw_byte a (bytes_on cs y) (let q = lead_large a t l in omega arith) ∙ ap (λ x. a ∷ x) (raw_follows y f) in
    subst (λ x. Reading (x ++ s) (bytes_on x y) r) (sym e)
    (subst (λ x. Reading (a ∷ (cs ++ s)) x r) (sym raw) (char (a ∷ cs) ∷ us, longer l f refl w, ap (λ z. a ∷ (cs ++ z)) q))

one_byte : (c : ℕ) → c < 128 → encode c ≡ c ∷ []
unfolding encode
one_byte c h = let a : nat_lt c 128 ≡ true = grind (arith, nat_tests) in rw a refl

char_reads : (c : ℕ) (s y r : List ℕ) → scalar c ≡ true → Reading s y r → Reading (encode c ++ s) (bytes_on (encode c) y) r
char_reads c s y r sc g =
    elim (cases_lt c 128) [
      | inl ascii ↦ subst (λ x. Reading (x ++ s) (bytes_on x y) r) (sym (one_byte c ascii)) (ascii_one c s y r ascii g)
      | inr a ↦ elim (cases_lt c 2048) [
        | inl b ↦ (let k = two_bytes c a b in long_one c k.0 (k.1 ∷ []) one s y r k.2 k.3 k.4 g)
        | inr b ↦ elim (cases_lt c 65536) [
          | inl d ↦ (let k = three_bytes c b d sc in long_one c k.0 k.1 k.2 s y r k.3 k.4 k.5 g)
          | inr d ↦ (let k = four_bytes c d (scalar_small c sc) in long_one c k.0 k.1 k.2 s y r k.3 k.4 k.5 g)
        ]
      ]
    ]

chars_read : (cs : List ℕ) (r : List ℕ) → scalars cs ≡ true → Reading (encodes cs) (bytes_on (encodes cs) (34 ∷ r)) r
chars_read [] r h = ([], quote, refl)
chars_read (c ∷ cs) r h =
    subst (λ x. Reading (encode c ++ encodes cs) x r) (sym (bytes_append (encode c) (encodes cs) (34 ∷ r)))
    (char_reads c (encodes cs) (bytes_on (encodes cs) (34 ∷ r)) r (and_left (scalar c) (scalars cs) h) (chars_read cs r (and_right (scalar c) (scalars cs) h)))

-- the canonical text of a string, behind its opening quote, reads back
pub string_reads : (s r : List ℕ) → IsUtf8 s → Reading s (bytes_on s (34 ∷ r)) r
string_reads s r (cs, (h, e)) = subst (λ x. Reading x (bytes_on x (34 ∷ r)) r) e (chars_read cs r h)
