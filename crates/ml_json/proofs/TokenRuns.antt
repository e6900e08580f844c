-- What the grammar reads, the machine reads.
use Rattle.std.proofs.Common.{◌≡◌, ℕ, List, [], ◌∷◌, ◌++◌, Bool, true, false, ◌==◌, ◌||◌, Some, None, refl, sym, ◌∙◌, ap, arith, append_assoc, append-nil}
use Rattle.std.proofs.lemmas.Bool.Decides.{nat_tests}
use Rattle.ml_json.specs.Tree.{Tree, num, Pairs}
use Rattle.ml_json.specs.Machine.{snoc, Mode, Frame, State, step, finish, Part, Purpose, may_end, go_on, is_letter, is_sign}
use Rattle.ml_json.specs.Grammar.{is_space, Blank, no_blank, blank}
use Rattle.ml_ratio.specs.JsonNumber.{is_digit, is_between, minus_number, plain_number, IsNumber, Tailed, exponent, no_exponent, ExponentPart}
use Rattle.ml_ratio.specs.JsonNumber.{signed, unsigned, Signed, fraction, no_fraction, FractionPart, whole, nought, Whole, Digits, AllDigits}
use Rattle.ml_json.specs.Machine as m
use Rattle.ml_json.proofs.Runs.{run, goes}

-- what may stand behind a number
abbrev pub ends : ℕ → Bool
ends b = is_space b || ((b == 44) || ((b == 93) || (b == 125)))

-- bytes that may stand behind a number: none, or such a byte and any others
abbrev pub Ends : List ℕ → Type 0
Ends [] = Unit {0}
Ends (b ∷ bs) = ends b ≡ true

-- in a mode that white space does not change, the machine goes over white space
pub run_blank : (m : Mode) (st : List Frame) → ((b : ℕ) → is_space b ≡ true → step m st b ≡ Some (m, st)) → {s r : List ℕ} → Blank s r → run s m st ≡ run r m st
unfolding run
run_blank m st h no_blank = refl
run_blank m st h (blank {b} {s} {r} sp bl) = ap (goes (run s)) (h b sp) ∙ run_blank m st h bl

-- white space does not change the mode in which a value is awaited
pub space_value : (st : List Frame) (b : ℕ) → is_space b ≡ true → step m.value st b ≡ Some (m.value, st)
unfolding step
space_value st b h = rw h refl

-- nor the one behind an opening bracket
pub space_first : (st : List Frame) (b : ℕ) → is_space b ≡ true → step m.first st b ≡ Some (m.first, st)
unfolding step
space_first st b h = rw h refl

-- nor the one behind an opening brace
pub space_first_key : (st : List Frame) (b : ℕ) → is_space b ≡ true → step m.first_key st b ≡ Some (m.first_key, st)
unfolding step
space_first_key st b h = rw h refl

-- nor the one behind a comma in a map
pub space_key : (ps : Pairs) (st : List Frame) (b : ℕ) → is_space b ≡ true → step (m.key ps) st b ≡ Some (m.key ps, st)
unfolding step
space_key ps st b h = rw h refl

-- nor the one behind a key
pub space_colon : (ps : Pairs) (k : List ℕ) (st : List Frame) (b : ℕ) → is_space b ≡ true → step (m.colon ps k) st b ≡ Some (m.colon ps k, st)
unfolding step
space_colon ps k st b h = rw h refl

-- nor the one behind a value
pub space_after : (v : Tree) (st : List Frame) (b : ℕ) → is_space b ≡ true → step (m.after v) st b ≡ Some (m.after v, st)
unfolding step
space_after v st b h = rw h refl

-- numbers
pub record May (part : Part) : Type 0 where
  pub stops : may_end part ≡ true
  pub letters : (b : ℕ) → is_letter b ≡ true → go_on part b ≡ Some m.letter
  pub none : (b : ℕ) → ends b ≡ true → go_on part b ≡ None

-- a byte that may stand behind a number is no digit
pub ends_digit : (b : ℕ) → ends b ≡ true → is_digit b ≡ false
ends_digit b h = grind (arith, nat_tests)

ends_letter : (b : ℕ) → ends b ≡ true → is_letter b ≡ false
ends_letter b h = grind (arith, nat_tests)

ends_dot : (b : ℕ) → ends b ≡ true → (b == 46) ≡ false
ends_dot b h = grind (arith, nat_tests)

letter_digit : (b : ℕ) → is_letter b ≡ true → is_digit b ≡ false
letter_digit b h = grind (arith, nat_tests)

letter_dot : (b : ℕ) → is_letter b ≡ true → (b == 46) ≡ false
letter_dot b h = grind (arith, nat_tests)

-- a number may end, or go on with an exponent, behind a whole part that is 0
pub may_nought : May m.nought
may_nought = record {
  stops = refl;
  letters = λ b h. rw (letter_dot b h, h) refl;
  none = λ b h. rw (ends_dot b h, ends_letter b h) refl;
}

-- so it may behind the digits of any other whole part
pub may_whole : May m.whole
may_whole = record {
  stops = refl;
  letters = λ b h. rw (letter_digit b h, letter_dot b h, h) refl;
  none = λ b h. rw (ends_digit b h, ends_dot b h, ends_letter b h) refl;
}

-- and so it may behind the digits of its fraction
pub may_digits : May m.digits
may_digits = record {
  stops = refl;
  letters = λ b h. rw (letter_digit b h, h) refl;
  none = λ b h. rw (ends_digit b h, ends_letter b h) refl;
}

-- where a number may end, it ends
pub number_ends : (part : Part) (acc : List ℕ) (st : List Frame) (r : List ℕ) → may_end part ≡ true → ((b : ℕ) → ends b ≡ true → go_on part b ≡ None) → Ends r
    → run r (m.number part acc) st ≡ run r (m.after (num acc)) st
unfolding run step
number_ends part acc [] [] e h x = rw e refl
number_ends part acc (f ∷ st) [] e h x = refl
number_ends part acc st (b ∷ bs) e h x = rw (h b x, e) refl

power_runs : (acc : List ℕ) (st : List Frame) (ds r : List ℕ) → AllDigits ds → Ends r → run (ds ++ r) (m.number m.power acc) st ≡ run r (m.after (num (acc ++ ds))) st
unfolding run step
power_runs acc st [] r all x = number_ends m.power acc st r refl (λ b h. rw (ends_digit b h) refl) x ∙ ap (λ s. run r (m.after (num s)) st) (sym (append-nil acc))
power_runs acc st (d ∷ ds) r all x = rw (all.0) (power_runs (acc ++ d ∷ []) st ds r all.1 x ∙ ap (λ s. run r (m.after (num s)) st) (append_assoc acc (d ∷ []) ds))

letter_digits : (acc : List ℕ) (st : List Frame) (ds r : List ℕ) → Digits ds → Ends r → run (ds ++ r) (m.number m.letter acc) st ≡ run r (m.after (num (acc ++ ds))) st
unfolding run step
letter_digits acc st [] r all x = absurd all
letter_digits acc st (d ∷ ds) r all x = rw (all.0) (power_runs (acc ++ d ∷ []) st ds r all.1 x ∙ ap (λ s. run r (m.after (num s)) st) (append_assoc acc (d ∷ []) ds))

sign_digits : (acc : List ℕ) (st : List Frame) (ds r : List ℕ) → Digits ds → Ends r → run (ds ++ r) (m.number m.sign acc) st ≡ run r (m.after (num (acc ++ ds))) st
unfolding run step
sign_digits acc st [] r all x = absurd all
sign_digits acc st (d ∷ ds) r all x = rw (all.0) (power_runs (acc ++ d ∷ []) st ds r all.1 x ∙ ap (λ s. run r (m.after (num s)) st) (append_assoc acc (d ∷ []) ds))

sign_digit : (b : ℕ) → is_sign b ≡ true → is_digit b ≡ false
sign_digit b h = grind (arith, nat_tests)

signed_runs : (acc : List ℕ) (st : List Frame) {s : List ℕ} (r : List ℕ) → Signed s → Ends r → run (s ++ r) (m.number m.letter acc) st ≡ run r (m.after (num (acc ++ s))) st
unfolding run step
signed_runs acc st r (unsigned {ds} all) x = letter_digits acc st ds r all x
signed_runs acc st r (signed {b} {ds} h all) x = rw (sign_digit b h, h) (sign_digits (acc ++ b ∷ []) st ds r all x ∙ ap (λ s. run r (m.after (num s)) st) (append_assoc acc (b ∷ []) ds))

exponent_runs : (part : Part) → May part → (acc : List ℕ) (st : List Frame) {s : List ℕ} (r : List ℕ) →
    ExponentPart s → Ends r → run (s ++ r) (m.number part acc) st ≡ run r (m.after (num (acc ++ s))) st
unfolding run step
exponent_runs part may acc st r no_exponent x = number_ends part acc st r may.stops may.none x ∙ ap (λ s. run r (m.after (num s)) st) (sym (append-nil acc))
exponent_runs part may acc st r (exponent {b} {s} h sg) x = rw (may.letters b h) (signed_runs (acc ++ b ∷ []) st r sg x ∙ ap (λ t. run r (m.after (num t)) st) (append_assoc acc (b ∷ []) s))

-- a fraction's digits, and the exponent
digits_runs : (acc : List ℕ) (st : List Frame) (ds : List ℕ) {e : List ℕ} (r : List ℕ) → AllDigits ds → ExponentPart e →
    Ends r → run (ds ++ (e ++ r)) (m.number m.digits acc) st ≡ run r (m.after (num (acc ++ (ds ++ e)))) st
unfolding run step
digits_runs acc st [] r all ex x = exponent_runs m.digits may_digits acc st r ex x
digits_runs acc st (d ∷ ds) {e} r all ex x = rw (all.0) (digits_runs (acc ++ d ∷ []) st ds r all.1 ex x ∙ ap (λ s. run r (m.after (num s)) st) (append_assoc acc (d ∷ []) (ds ++ e)))

dot_runs : (acc : List ℕ) (st : List Frame) (ds : List ℕ) {e : List ℕ} (r : List ℕ) → Digits ds → ExponentPart e →
    Ends r → run (ds ++ (e ++ r)) (m.number m.dot acc) st ≡ run r (m.after (num (acc ++ (ds ++ e)))) st
unfolding run step
dot_runs acc st [] r all ex x = absurd all
dot_runs acc st (d ∷ ds) {e} r all ex x = rw (all.0) (digits_runs (acc ++ d ∷ []) st ds r all.1 ex x ∙ ap (λ s. run r (m.after (num s)) st) (append_assoc acc (d ∷ []) (ds ++ e)))

fraction_runs : (part : Part) → May part → go_on part 46 ≡ Some m.dot → (acc : List ℕ) (st : List Frame) {f e : List ℕ} (r : List ℕ) → FractionPart f → ExponentPart e → Ends r
    → run (f ++ (e ++ r)) (m.number part acc) st ≡ run r (m.after (num (acc ++ (f ++ e)))) st
unfolding run step
fraction_runs part may dots acc st r no_fraction ex x = exponent_runs part may acc st r ex x
fraction_runs part may dots acc st {f} {e} r (fraction {ds} all) ex x =
    rw dots (dot_runs (acc ++ 46 ∷ []) st ds r all ex x ∙ ap (λ t. run r (m.after (num t)) st) (append_assoc acc (46 ∷ []) (ds ++ e)))

tailed_runs : (part : Part) → May part → go_on part 46 ≡ Some m.dot → (acc : List ℕ) (st : List Frame) (t r : List ℕ) →
    Tailed t → Ends r → run (t ++ r) (m.number part acc) st ≡ run r (m.after (num (acc ++ t))) st
tailed_runs part may dots acc st t r (f, e, eq, fr, ex) x =
    ap (λ s. run (s ++ r) (m.number part acc) st) eq ∙ ap (λ s. run s (m.number part acc) st) (append_assoc f e r)
    ∙ fraction_runs part may dots acc st r fr ex x ∙ ap (λ s. run r (m.after (num (acc ++ s))) st) (sym eq)

whole_runs : (acc : List ℕ) (st : List Frame) (ds t r : List ℕ) → AllDigits ds → Tailed t → Ends r → run (ds ++ (t ++ r)) (m.number m.whole acc) st ≡ run r (m.after (num (acc ++ (ds ++ t)))) st
unfolding run step
whole_runs acc st [] t r all ta x = tailed_runs m.whole may_whole refl acc st t r ta x
whole_runs acc st (d ∷ ds) t r all ta x = rw (all.0) (whole_runs (acc ++ d ∷ []) st ds t r all.1 ta x ∙ ap (λ s. run r (m.after (num s)) st) (append_assoc acc (d ∷ []) (ds ++ t)))

minus_first : (d : ℕ) → is_between 49 57 d ≡ true → (d == 48) ≡ false
minus_first d h = grind (arith, nat_tests)

minus_runs : (acc : List ℕ) (st : List Frame) {w : List ℕ} (t r : List ℕ) → Whole w → Tailed t → Ends r → run (w ++ (t ++ r)) (m.number m.minus acc) st ≡ run r (m.after (num (acc ++ (w ++ t)))) st
unfolding run step
minus_runs acc st t r nought ta x = tailed_runs m.nought may_nought refl (acc ++ 48 ∷ []) st t r ta x ∙ ap (λ s. run r (m.after (num s)) st) (append_assoc acc (48 ∷ []) t)
minus_runs acc st t r (whole {d} {ds} h all) ta x = rw (minus_first d h, h) (whole_runs (acc ++ d ∷ []) st ds t r all ta x ∙ ap (λ s. run r (m.after (num s)) st) (append_assoc acc (d ∷ []) (ds ++ t)))

-- where a value is awaited, a digit other than zero begins a number
pub first_digit : (st : List Frame) (d : ℕ) → is_between 49 57 d ≡ true → m.value_step st d ≡ Some (m.number m.whole (d ∷ []), st)
first_digit st d h =
    let a : is_space d ≡ false = grind (arith, nat_tests) in
    let b : (d == 34) ≡ false = grind (arith, nat_tests) in
    let c : (d == 91) ≡ false = grind (arith, nat_tests) in
    let e : (d == 123) ≡ false = grind (arith, nat_tests) in
    let f : (d == 45) ≡ false = grind (arith, nat_tests) in
    let g : (d == 48) ≡ false = grind (arith, nat_tests) in
    rw (a, b, c, e, f, g, h) refl

plain_runs : (st : List Frame) {w : List ℕ} (t r : List ℕ) → Whole w → Tailed t → Ends r → run (w ++ (t ++ r)) m.value st ≡ run r (m.after (num (w ++ t))) st
unfolding run step
plain_runs st t r nought ta x = tailed_runs m.nought may_nought refl (48 ∷ []) st t r ta x
plain_runs st t r (whole {d} {ds} h all) ta x = rw (first_digit st d h) (whole_runs (d ∷ []) st ds t r all ta x)

-- the machine goes over a number to the state behind it, if the bytes behind it may stand there
pub number_runs : (st : List Frame) {s : List ℕ} (r : List ℕ) → IsNumber s → Ends r → run (s ++ r) m.value st ≡ run r (m.after (num s)) st
unfolding run step
number_runs st r (plain_number {s} (w, t, eq, wh, ta)) x =
    ap (λ s. run (s ++ r) m.value st) eq ∙ ap (λ s. run s m.value st) (append_assoc w t r) ∙ plain_runs st t r wh ta x ∙ ap (λ s. run r (m.after (num s)) st) (sym eq)
number_runs st r (minus_number {s} (w, t, eq, wh, ta)) x =
    ap (λ s. run (s ++ r) (m.number m.minus (45 ∷ [])) st) eq ∙ ap (λ s. run s (m.number m.minus (45 ∷ [])) st) (append_assoc w t r)
    ∙ minus_runs (45 ∷ []) st t r wh ta x ∙ ap (λ s. run r (m.after (num (45 ∷ s))) st) (sym eq)
