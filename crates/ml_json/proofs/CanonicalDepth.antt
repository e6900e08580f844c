-- How deep the canonical text goes.
use Rattle.std.proofs.Common.{◌≡◌, ℕ, zero, suc, ◌+◌, ◌-◌, ◌<◌, ◌≤◌, List, [], ◌∷◌, ◌++◌, take, max, refl, sym, ◌∙◌, ap, subst, arith, ◌==◌, ◌/◌, ◌%◌, nat_lt, true, false}
use Rattle.ml_json.specs.Tree.{Tree, null, flag, num, str, list, map, Trees, none, more, Pairs, no_pairs, pair}
use Rattle.std.proofs.lemmas.Bool.Decides.{nat_tests}
use Rattle.ml_json.proofs.RunsRead.{by_cases}
use Rattle.ml_json.specs.Canonical.{hex_byte, byte_on, bytes_on, tree_on, items_on, rest_on, members_on, more_on, nesting, items_nesting, pairs_nesting}
use Rattle.ml_json.proofs.CanonicalReads.{Good, AllGood, AllGoodPairs}
use Rattle.ml_json.proofs.DepthRuns.{calm_digit, calm_first, calm_sign, calm_letter}
use Rattle.ml_ratio.specs.JsonNumber.{minus_number, plain_number, IsNumber, Unsigned, exponent, no_exponent, ExponentPart, signed}
use Rattle.ml_ratio.specs.JsonNumber.{unsigned, Signed, fraction, no_fraction, FractionPart, whole, nought, Whole, Digits, AllDigits}
use Rattle.ml_json.specs.Depth.{outside, inside, Seen, see, seen, IsShallow}

-- no byte takes the depth beyond the limit
abbrev pub Stays : ℕ → Seen → List ℕ → Type 0
Stays limit x [] = x.1 ≤ limit
Stays limit x (b ∷ bs) = (x.1 ≤ limit) × Stays limit (see x.0 x.1 b) bs

stays_here : (limit : ℕ) (x : Seen) (bs : List ℕ) → Stays limit x bs → x.1 ≤ limit
stays_here limit x [] h = h
stays_here limit x (b ∷ bs) h = h.0

stays_take : (limit : ℕ) (x : Seen) (bs : List ℕ) (k : ℕ) → Stays limit x bs → (seen x (take k bs)).1 ≤ limit
unfolding seen
stays_take limit x bs zero h = stays_here limit x bs h
stays_take limit x [] (suc k) h = h
stays_take limit x (b ∷ bs) (suc k) h = stays_take limit (see x.0 x.1 b) bs k h.1

-- bytes that never go beyond depth 64 open no 65th list or map before any place
pub shallow_if_stays : (bs : List ℕ) (at : ℕ) → Stays 64 (outside, 0) bs → IsShallow bs at
shallow_if_stays bs at h k le = stays_take 64 (outside, 0) bs k h

-- bytes that do not count
abbrev pub AllCalm : List ℕ → Type 0
AllCalm [] = Unit {0}
AllCalm (b ∷ bs) = ((d : ℕ) → see outside d b ≡ (outside, d)) × AllCalm bs

calm_stays : (limit d : ℕ) (s r : List ℕ) → AllCalm s → d ≤ limit → Stays limit (outside, d) r → Stays limit (outside, d) (s ++ r)
calm_stays limit d [] r h le g = g
calm_stays limit d (b ∷ s) r h le g = (le, subst (λ x. Stays limit x (s ++ r)) (sym (h.0 d)) (calm_stays limit d s r h.1 le g))

hex_calm : (d n : ℕ) → n < 16 → see inside d (hex_byte n) ≡ (inside, d)
hex_calm d n h =
    let a : (hex_byte n == 34) ≡ false = grind (arith, nat_tests) in
    let c : (hex_byte n == 92) ≡ false = grind (arith, nat_tests) in
    rw (a, c) refl

code_stays : (limit d b : ℕ) (y : List ℕ) → d ≤ limit → Stays limit (inside, d) y → b < 32 → Stays limit (inside, d) (92 ∷ 117 ∷ 48 ∷ 48 ∷ hex_byte (b / 16) ∷ hex_byte (b % 16) ∷ y)
code_stays limit d b y le g h =
    let last : Stays limit (inside, d) (hex_byte (b % 16) ∷ y) = (le, subst (λ x. Stays limit x y) (sym (hex_calm d (b % 16) (omega arith))) g) in
    let two : Stays limit (inside, d) (hex_byte (b / 16) ∷ hex_byte (b % 16) ∷ y) = (le, subst (λ x. Stays limit x (hex_byte (b % 16) ∷ y)) (sym (hex_calm d (b / 16) (omega arith))) last) in
    (le, (le, (le, (le, two))))

-- a byte of a string, as it is written
byte_stays : (limit d b : ℕ) (y : List ℕ) → d ≤ limit → Stays limit (inside, d) y → Stays limit (inside, d) (byte_on b y)
byte_stays limit d b y le g =
    let P : List ℕ → Type 0 = Stays limit (inside, d) in
    by_cases P (b == 34) _ _ (λ e. (le, (le, g)))
    (λ quoted. by_cases P (b == 92) _ _ (λ e. (le, (le, g)))
    (λ slash. by_cases P (b == 8) _ _ (λ e. (le, (le, g)))
    (λ _. by_cases P (b == 9) _ _ (λ e. (le, (le, g)))
    (λ _. by_cases P (b == 10) _ _ (λ e. (le, (le, g)))
    (λ _. by_cases P (b == 12) _ _ (λ e. (le, (le, g)))
    (λ _. by_cases P (b == 13) _ _ (λ e. (le, (le, g)))
    (λ _. by_cases P (nat_lt b 32) _ _ (λ e. code_stays limit d b y le g (grind (arith, nat_tests)))
    (λ _. (le, subst (λ x. Stays limit x y) (sym (rw (quoted, slash) refl)) g)))))))))

text_stays : (limit d : ℕ) (s r : List ℕ) → d ≤ limit → Stays limit (outside, d) r → Stays limit (inside, d) (bytes_on s (34 ∷ r))
text_stays limit d [] r le g = (le, g)
text_stays limit d (b ∷ s) r le g = byte_stays limit d b (bytes_on s (34 ∷ r)) le (text_stays limit d s r le g)

-- a closing bracket takes back the level that the opening one added
pub closed : (d : ℕ) → d ≡ d + 1 - 1
closed d = omega arith

-- the first of two depths is at most the greater one
pub max_left : (a b : ℕ) → a ≤ max a b
max_left a b = omega arith

-- and so is the second of them
pub max_right : (a b : ℕ) → b ≤ max a b
max_right a b = omega arith

-- digits and signs do not count
digits_calm : (ds : List ℕ) → AllDigits ds → AllCalm ds
digits_calm [] h = tt
digits_calm (d ∷ ds) h = ((λ n. calm_digit n d h.0), digits_calm ds h.1)

some_calm : (ds : List ℕ) → Digits ds → AllCalm ds
some_calm [] h = tt
some_calm (d ∷ ds) h = digits_calm (d ∷ ds) h

joined_calm : (s t : List ℕ) → AllCalm s → AllCalm t → AllCalm (s ++ t)
joined_calm [] t h g = g
joined_calm (b ∷ s) t h g = (h.0, joined_calm s t h.1 g)

whole_calm : {w : List ℕ} → Whole w → AllCalm w
whole_calm nought = ((λ d. refl), tt)
whole_calm (whole {d} {ds} h all) = ((λ n. calm_first n d h), digits_calm ds all)

fraction_calm : {w : List ℕ} → FractionPart w → AllCalm w
fraction_calm no_fraction = tt
fraction_calm (fraction {ds} all) = ((λ d. refl), some_calm ds all)

signed_calm : {w : List ℕ} → Signed w → AllCalm w
signed_calm (unsigned {ds} all) = some_calm ds all
signed_calm (signed {b} {ds} h all) = ((λ d. calm_sign d b h), some_calm ds all)

exponent_calm : {w : List ℕ} → ExponentPart w → AllCalm w
exponent_calm no_exponent = tt
exponent_calm (exponent {b} h sg) = ((λ d. calm_letter d b h), signed_calm sg)

unsigned_calm : (s : List ℕ) → Unsigned s → AllCalm s
unsigned_calm s (w, t, e, wh, (f, x, eq, fr, ex)) =
    subst AllCalm (sym (e ∙ ap (λ y. w ++ y) eq)) (joined_calm w (f ++ x) (whole_calm wh) (joined_calm f x (fraction_calm fr) (exponent_calm ex)))

-- no byte of a number counts for the depth
pub number_calm : {s : List ℕ} → IsNumber s → AllCalm s
number_calm (plain_number {s} u) = unsigned_calm s u
number_calm (minus_number {s} u) = ((λ d. refl), unsigned_calm s u)

mutual
  -- the text of a tree that has room at its depth never goes beyond 64, if what follows does not
  pub spell_stays : (v : Tree) (d : ℕ) (r : List ℕ) → Good v → d + nesting v ≤ 64 → Stays 64 (outside, d) r → Stays 64 (outside, d) (tree_on v r)
  spell_stays null d r h le g = calm_stays 64 d (110 ∷ 117 ∷ 108 ∷ 108 ∷ []) r ((λ _. refl), ((λ _. refl), ((λ _. refl), ((λ _. refl), tt)))) (omega arith) g
  spell_stays (flag true) d r h le g = calm_stays 64 d (116 ∷ 114 ∷ 117 ∷ 101 ∷ []) r ((λ _. refl), ((λ _. refl), ((λ _. refl), ((λ _. refl), tt)))) (omega arith) g
  spell_stays (flag false) d r h le g = calm_stays 64 d (102 ∷ 97 ∷ 108 ∷ 115 ∷ 101 ∷ []) r ((λ _. refl), ((λ _. refl), ((λ _. refl), ((λ _. refl), ((λ _. refl), tt))))) (omega arith) g
  spell_stays (num s) d r h le g = calm_stays 64 d s r (number_calm h) (omega arith) g
  spell_stays (str s) d r h le g = ((omega arith), text_stays 64 d s r (omega arith) g)
  spell_stays (list vs) d r h le g = ((omega arith), items_stay vs d r h (omega arith) g)
  spell_stays (map ps) d r h le g = ((omega arith), members_stay ps d r h (omega arith) g)

  -- nor does the text of a list's items, one level deeper behind the opening bracket
  pub items_stay : (vs : Trees) (d : ℕ) (r : List ℕ) → AllGood vs → d + 1 + items_nesting vs ≤ 64 → Stays 64 (outside, d) r → Stays 64 (outside, d + 1) (items_on vs r)
  items_stay none d r h le g = ((omega arith), subst (λ n. Stays 64 (outside, n) r) (closed d) g)
  items_stay (more v vs) d r h le g = spell_stays v (d + 1) (rest_on vs r) h.0 (omega (arith, max_left (nesting v) (items_nesting vs)))
      (rest_stays vs d r h.1 (omega (arith, max_right (nesting v) (items_nesting vs))) g)

  -- nor does the text behind one of its items
  pub rest_stays : (vs : Trees) (d : ℕ) (r : List ℕ) → AllGood vs → d + 1 + items_nesting vs ≤ 64 → Stays 64 (outside, d) r → Stays 64 (outside, d + 1) (rest_on vs r)
  rest_stays none d r h le g = ((omega arith), subst (λ n. Stays 64 (outside, n) r) (closed d) g)
  rest_stays (more v vs) d r h le g = (
    (omega arith),
    spell_stays v (d + 1) (rest_on vs r) h.0 (omega (arith, max_left (nesting v) (items_nesting vs))) (rest_stays vs d r h.1 (omega (arith, max_right (nesting v) (items_nesting vs))) g),
  )

  -- nor does the text of a map's members, one level deeper behind the opening brace
  pub members_stay : (ps : Pairs) (d : ℕ) (r : List ℕ) → AllGoodPairs ps → d + 1 + pairs_nesting ps ≤ 64 → Stays 64 (outside, d) r → Stays 64 (outside, d + 1) (members_on ps r)
  members_stay no_pairs d r h le g = ((omega arith), subst (λ n. Stays 64 (outside, n) r) (closed d) g)
  members_stay (pair k v ps) d r h le g =
      let w : Stays 64 (outside, d + 1) (58 ∷ tree_on v (more_on ps r)) = (
        (omega arith),
        spell_stays v (d + 1) (more_on ps r) h.1 (omega (arith, max_left (nesting v) (pairs_nesting ps))) (more_stays ps d r h.2 (omega (arith, max_right (nesting v) (pairs_nesting ps))) g),
      ) in
      ((omega arith), text_stays 64 (d + 1) k (58 ∷ tree_on v (more_on ps r)) (omega arith) w)

  -- nor does the text behind one of its members
  pub more_stays : (ps : Pairs) (d : ℕ) (r : List ℕ) → AllGoodPairs ps → d + 1 + pairs_nesting ps ≤ 64 → Stays 64 (outside, d) r → Stays 64 (outside, d + 1) (more_on ps r)
  more_stays no_pairs d r h le g = ((omega arith), subst (λ n. Stays 64 (outside, n) r) (closed d) g)
  more_stays (pair k v ps) d r h le g =
      let w : Stays 64 (outside, d + 1) (58 ∷ tree_on v (more_on ps r)) = (
        (omega arith),
        spell_stays v (d + 1) (more_on ps r) h.1 (omega (arith, max_left (nesting v) (pairs_nesting ps))) (more_stays ps d r h.2 (omega (arith, max_right (nesting v) (pairs_nesting ps))) g),
      ) in
      ((omega arith), ((omega arith), text_stays 64 (d + 1) k (58 ∷ tree_on v (more_on ps r)) (omega arith) w))
