-- How lines spell ids, and what is read back.
use Rattle.std.proofs.Common.{zero, suc, ◌≡◌, ℕ, ◌+◌, ◌*◌, ◌/◌, ◌%◌, ◌<◌, ◌≤◌, eqb, ltb, Bool, true, false, cond, List, [], ◌∷◌, ◌++◌, flat_map, IsUtf8, inl, inr, refl, sym, ap, ◌∙◌, subst, arith}
use Rattle.std.proofs.lemmas.Bool.{and_parts}
use Rattle.std.proofs.lemmas.Bool.Decides.{nat_tests}
use Rattle.std.specs.Prelude.{All}
use lib.Utf8.{scalar, scalars, encode, encodes, scalar_cases}
use Rattle.ml_watch.specs.Line.{is_plain, hex_digit, byte_text, id_text}
use Rattle.ml_watch.specs.Spelling.{Spells, hex_value, bytes_spelled, spelled}

-- ---- the bytes of a text

abbrev AreBytes : List ℕ → Type 0
AreBytes [] = Unit {0}
AreBytes (b ∷ bs) = (b < 256) × AreBytes bs

bytes_append : (xs ys : List ℕ) → AreBytes xs → AreBytes ys → AreBytes (xs ++ ys)
bytes_append [] ys a b = b
bytes_append (x ∷ xs) ys a b = (a.0, bytes_append xs ys a.1 b)

below : (c : ℕ) → scalar c ≡ true → c < 1114112
below c ok = elim (scalar_cases c ok) [
  | inl low ↦ omega (arith, low)
  | inr high ↦ high.1
]

encode_bytes : (c : ℕ) → scalar c ≡ true → AreBytes (encode c)
unfolding encode
encode_bytes c ok = by_size (ltb c 128) (ltb c 2048) (ltb c 65536) refl refl refl
  where
    by_size : (x y z : Bool) → ltb c 128 ≡ x → ltb c 2048 ≡ y → ltb c 65536 ≡ z → AreBytes (cond x (c ∷ []) (cond y ((192 + c / 64) ∷ (128 + c % 64) ∷ [])
        (cond z ((224 + c / 4096) ∷ (128 + c / 64 % 64) ∷ (128 + c % 64) ∷ []) ((240 + c / 262144) ∷ (128 + c / 4096 % 64) ∷ (128 + c / 64 % 64) ∷ (128 + c % 64) ∷ []))))
    by_size true y z e f g = let h : c < 128 = grind (arith, nat_tests) in (omega arith, tt)
    by_size false true z e f g = let h : c < 2048 = grind (arith, nat_tests) in (omega arith, (omega arith, tt))
    by_size false false true e f g = let h : c < 65536 = grind (arith, nat_tests) in (omega arith, (omega arith, (omega arith, tt)))
    by_size false false false e f g = let h = below c ok in (omega arith, (omega arith, (omega arith, (omega arith, tt))))

encodes_bytes : (cs : List ℕ) → scalars cs ≡ true → AreBytes (encodes cs)
encodes_bytes [] e = tt
encodes_bytes (c ∷ cs) e = let p = and_parts _ _ e in bytes_append (encode c) (encodes cs) (encode_bytes c p.0) (encodes_bytes cs p.1)

utf8_bytes : (bs : List ℕ) → IsUtf8 bs → AreBytes bs
utf8_bytes bs u = subst AreBytes u.1.1 (encodes_bytes u.0 u.1.0)

-- ---- a byte

hex_back : (n : ℕ) → n < 16 → hex_value (hex_digit n) ≡ n
hex_back n low = grind (arith, nat_tests)

plain_byte : (b : ℕ) → is_plain b ≡ true → eqb b 37 ≡ false
plain_byte b e = by_test (eqb b 37) refl
  where
    by_test : (t : Bool) → eqb b 37 ≡ t → t ≡ false
    by_test false f = refl
    by_test true f = let same : b ≡ 37 = grind (arith, nat_tests) in absurd (let no : false ≡ true = subst (λ x. is_plain x ≡ true) same e in cc)

plain_first : (b : ℕ) (rest : List ℕ) → eqb b 37 ≡ false → bytes_spelled (b ∷ rest) ≡ b ∷ bytes_spelled rest
plain_first b [] e = refl
plain_first b (x ∷ []) e = refl
plain_first b (x ∷ y ∷ rest) e = rw e refl

byte_back : (b : ℕ) (rest : List ℕ) → b < 256 → bytes_spelled (byte_text b ++ rest) ≡ b ∷ bytes_spelled rest
byte_back b rest low = by_test (is_plain b) refl
  where
    by_test : (t : Bool) → is_plain b ≡ t → bytes_spelled (cond t (b ∷ []) (37 ∷ hex_digit (b / 16) ∷ hex_digit (b % 16) ∷ []) ++ rest) ≡ b ∷ bytes_spelled rest
    by_test true e = plain_first b rest (plain_byte b e)
    by_test false e =
        let high = hex_back (b / 16) (omega arith) in
        let low_digit = hex_back (b % 16) (omega arith) in
        let whole : hex_value (hex_digit (b / 16)) * 16 + hex_value (hex_digit (b % 16)) ≡ b = rw (high, low_digit) (omega arith) in
        ap (λ (x : ℕ). x ∷ bytes_spelled rest) whole

bytes_back : (id : List ℕ) → AreBytes id → bytes_spelled (flat_map byte_text id) ≡ id
bytes_back [] h = refl
bytes_back (b ∷ id) h = byte_back b (flat_map byte_text id) h.0 ∙ ap (λ (t : List ℕ). b ∷ t) (bytes_back id h.1)

-- ---- an id

not_lone : (b : ℕ) (rest : List ℕ) → eqb b 37 ≡ false → spelled (b ∷ rest) ≡ bytes_spelled (b ∷ rest)
not_lone b [] e = rw e refl
not_lone b (x ∷ rest) e = refl

first_spelled : (b : ℕ) (rest : List ℕ) → spelled (byte_text b ++ rest) ≡ bytes_spelled (byte_text b ++ rest)
first_spelled b rest = by_test (is_plain b) refl
  where
    by_test : (t : Bool) → is_plain b ≡ t → spelled (cond t (b ∷ []) (37 ∷ hex_digit (b / 16) ∷ hex_digit (b % 16) ∷ []) ++ rest)
        ≡ bytes_spelled (cond t (b ∷ []) (37 ∷ hex_digit (b / 16) ∷ hex_digit (b % 16) ∷ []) ++ rest)
    by_test true e = not_lone b rest (plain_byte b e)
    by_test false e = refl

spelled_back : (id : List ℕ) → AreBytes id → spelled (id_text id) ≡ id
spelled_back [] h = refl
spelled_back (b ∷ id) h = first_spelled b (flat_map byte_text id) ∙ bytes_back (b ∷ id) h

-- the id that a text spells is what is read back
pub spelled_id : (text id : List ℕ) → Spells text id → spelled text ≡ id
spelled_id text id s = ap spelled (sym s.spelled) ∙ spelled_back id (utf8_bytes id s.is_text)

-- a text spells one id at most
pub one_spelling : (text id other : List ℕ) → Spells text id → Spells text other → id ≡ other
one_spelling text id other s t = sym (spelled_id text id s) ∙ spelled_id text other t

-- ---- the bytes of an id in a line

plain_within : (b : ℕ) → is_plain b ≡ true → (35 ≤ b) × (b ≤ 126)
plain_within b e = (grind (arith, nat_tests), grind (arith, nat_tests))

hex_within : (n : ℕ) → n < 16 → (35 ≤ hex_digit n) × (hex_digit n ≤ 126)
hex_within n h = (grind (arith, nat_tests), grind (arith, nat_tests))

abbrev AreVisible : List ℕ → Type 0
AreVisible bytes = All (λ byte. (35 ≤ byte) × (byte ≤ 126)) bytes

visible_cons : (b : ℕ) (bs : List ℕ) → (35 ≤ b) × (b ≤ 126) → AreVisible bs → AreVisible (b ∷ bs)
visible_cons b bs h all zero d lt = h
visible_cons b bs h all (suc k) d lt = all k d (omega (arith, lt))

no_bytes : AreVisible []
no_bytes k d lt = absurd (omega (arith, lt))

byte_within : (b : ℕ) (bs : List ℕ) → b < 256 → AreVisible bs → AreVisible (byte_text b ++ bs)
byte_within b bs low all = by_test (is_plain b) refl
  where
    by_test : (t : Bool) → is_plain b ≡ t → AreVisible (cond t (b ∷ []) (37 ∷ hex_digit (b / 16) ∷ hex_digit (b % 16) ∷ []) ++ bs)
    by_test true e = visible_cons b bs (plain_within b e) all
    by_test false e =
        visible_cons 37 (hex_digit (b / 16) ∷ hex_digit (b % 16) ∷ bs) (omega arith, omega arith)
        (visible_cons (hex_digit (b / 16)) (hex_digit (b % 16) ∷ bs) (hex_within (b / 16) (omega arith)) (visible_cons (hex_digit (b % 16)) bs (hex_within (b % 16) (omega arith)) all))

bytes_within : (id : List ℕ) → AreBytes id → AreVisible (flat_map byte_text id)
bytes_within [] h = no_bytes
bytes_within (b ∷ id) h = byte_within b (flat_map byte_text id) h.0 (bytes_within id h.1)

-- each byte of an id in a line is one of the visible characters from # to ~
pub visible_id : (id : List ℕ) → IsUtf8 id → AreVisible (id_text id)
visible_id [] u = visible_cons 37 [] (omega arith, omega arith) no_bytes
visible_id (b ∷ id) u = bytes_within (b ∷ id) (utf8_bytes (b ∷ id) u)
