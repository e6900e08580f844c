-- Texts of spaces alone, byte by byte and character by character.
use Rattle.std.proofs.Common.{◌≡◌, ◌≢◌, ℕ, ◌+◌, ◌/◌, ◌≤◌, Bool, true, false, cond, ◌&&◌, List, [], ◌∷◌, ◌++◌, map, refl, ap, ◌∙◌, arith}
use Rattle.std.specs.Prelude.{◌==◌}
use Rattle.std.specs.List.{list_all}
use Rattle.std.specs.Str.{encode_utf8_all}
use Rattle.std.proofs.lemmas.Bool.Decides.{nat_tests}
use lib.Dec.{ltb}
use lib.Utf8.{encode}

-- whether a byte is a space
abbrev is_space : ℕ → Bool
is_space byte = byte == 32

other : (n : ℕ) → n ≢ 32 → is_space n ≡ false
other n h = grind (arith, nat_tests, h)

-- a character of several bytes begins with none that is a space
several : (c first : ℕ) (others bs : List ℕ) → c ≢ 32 → first ≢ 32 → list_all is_space ((first ∷ others) ++ bs) ≡ is_space c && list_all is_space bs
several c first others bs h k = rw (other c h, other first k) refl

by_length : (x y z : Bool) (c p q r : ℕ) (s t u bs : List ℕ) → (x ≡ false → c ≢ 32) → p ≢ 32 → q ≢ 32 → r ≢ 32 →
    list_all is_space (cond x (c ∷ []) (cond y (p ∷ s) (cond z (q ∷ t) (r ∷ u))) ++ bs) ≡ is_space c && list_all is_space bs
by_length true y z c p q r s t u bs h i j k = refl
by_length false true z c p q r s t u bs h i j k = several c p s bs (h refl) i
by_length false false true c p q r s t u bs h i j k = several c q t bs (h refl) j
by_length false false false c p q r s t u bs h i j k = several c r u bs (h refl) k

-- the first bytes of such characters are no spaces
more : (n m : ℕ) → 33 ≤ n → n + m ≢ 32
more n m h = omega arith

wide : (c : ℕ) → ltb c 128 ≡ false → c ≢ 32
wide c h = grind (arith, nat_tests, h)

one_char : (c : ℕ) (bs : List ℕ) → list_all is_space (encode c ++ bs) ≡ is_space c && list_all is_space bs
unfolding encode
one_char c bs = by_length _ _ _ c _ _ _ _ _ _ bs (wide c) (more 192 (c / 64) (omega arith)) (more 224 (c / 4096) (omega arith)) (more 240 (c / 262144) (omega arith))

-- a text is blank just where all its characters are spaces
pub all_spaces : (cs : List ℕ) (f : ℕ → ℕ) → list_all is_space (encode_utf8_all (map f cs)) ≡ list_all (λ c. is_space (f c)) cs
all_spaces [] f = refl
all_spaces (c ∷ cs) f = one_char (f c) (encode_utf8_all (map f cs)) ∙ ap (λ b. is_space (f c) && b) (all_spaces cs f)
