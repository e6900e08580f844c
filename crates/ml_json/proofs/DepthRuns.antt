-- The machine's stack is as high as brackets are open.
use Rattle.std.proofs.Common.{◌≡◌, ℕ, zero, suc, ◌+◌, ◌*◌, ◌-◌, ◌≤◌, List, [], ◌∷◌, length, Bool, true, false, cond, nat_lt, ◌==◌, ◌||◌, Option, Some, None, refl, ◌∙◌, ap, subst, arith}
use Rattle.std.proofs.lemmas.Bool.Decides.{nat_tests}
use Rattle.ml_json.specs.Tree.{Tree, none, Pairs}
use Rattle.ml_json.specs.Grammar.{is_space}
use Rattle.ml_ratio.specs.JsonNumber.{is_digit, is_between}
use Rattle.ml_json.specs.Characters.{Tail, lead, low, high, later, one, two, three, after_e0, after_ed, after_f0, after_f4}
use Rattle.ml_json.specs.Strings.{is_high, is_low, escaped, hex_digit}
use Rattle.ml_json.specs.Machine as m
use Rattle.ml_json.specs.Machine.{Mode, Frame, State, Part, Purpose, step, may_end, go_on, is_letter, is_sign, with_key, open_of}
use Rattle.ml_json.proofs.Runs.{reach, reaches}
use Rattle.ml_json.specs.Depth.{Where, outside, inside, behind_backslash, Seen, see, seen, depth}
use Rattle.ml_json.proofs.RunsRead.{by_cases, at_byte}

-- where the next byte stands in a mode
unfoldable pub place_of : Mode → Where
place_of (m.text purpose p c) = inside
place_of (m.escape purpose p c) = behind_backslash
place_of (m.hex purpose p c n a) = inside
place_of (m.bytes purpose p c t got) = inside
place_of _ = outside

-- if there is a step, the byte changes place and depth of the count to those of the state that it leads to
abbrev pub Sees : Where → ℕ → ℕ → Option State → Type 0
Sees w d b None = Unit {0}
Sees w d b (Some x) = see w d b ≡ (place_of x.0, open_of x.0 x.1)

-- bytes that change nothing outside strings
calm : (d b : ℕ) → (b == 34) ≡ false → ((b == 91) || (b == 123)) ≡ false → ((b == 93) || (b == 125)) ≡ false → see outside d b ≡ (outside, d)
calm d b h k l = rw (h, k, l) refl

-- white space changes nothing outside strings
pub calm_space : (d b : ℕ) → is_space b ≡ true → see outside d b ≡ (outside, d)
calm_space d b h = calm d b (grind (arith, nat_tests)) (grind (arith, nat_tests)) (grind (arith, nat_tests))

-- a digit changes nothing there
pub calm_digit : (d b : ℕ) → is_digit b ≡ true → see outside d b ≡ (outside, d)
calm_digit d b h = calm d b (grind (arith, nat_tests)) (grind (arith, nat_tests)) (grind (arith, nat_tests))

-- a digit other than zero, with which a number begins, changes nothing there
pub calm_first : (d b : ℕ) → is_between 49 57 b ≡ true → see outside d b ≡ (outside, d)
calm_first d b h = calm d b (grind (arith, nat_tests)) (grind (arith, nat_tests)) (grind (arith, nat_tests))

-- the letter of an exponent changes nothing there
pub calm_letter : (d b : ℕ) → is_letter b ≡ true → see outside d b ≡ (outside, d)
calm_letter d b h = calm d b (grind (arith, nat_tests)) (grind (arith, nat_tests)) (grind (arith, nat_tests))

-- the sign of an exponent changes nothing there
pub calm_sign : (d b : ℕ) → is_sign b ≡ true → see outside d b ≡ (outside, d)
calm_sign d b h = calm d b (grind (arith, nat_tests)) (grind (arith, nat_tests)) (grind (arith, nat_tests))

-- bytes that change nothing inside
pub still : (d b : ℕ) → (b == 34) ≡ false → (b == 92) ≡ false → see inside d b ≡ (inside, d)
still d b h k = rw (h, k) refl

open_sees : (st : List Frame) (b : ℕ) → Sees outside (length st) b (m.open_step st b)
unfolding place_of open_of
open_sees st b =
    let P : Option State → Type 0 = Sees outside (length st) b in
    by_cases P (b == 34) _ _ (λ e. rw e refl)
    (λ quote. by_cases P (b == 91) _ _ (λ e. rw (quote, e) refl)
    (λ bracket. by_cases P (b == 123) _ _ (λ e. rw (quote, bracket, e) refl)
    (λ _. by_cases P (b == 45) _ _ (λ e. calm (length st) b quote (grind (arith, nat_tests)) (grind (arith, nat_tests)))
    (λ _. by_cases P (b == 48) _ _ (λ e. calm (length st) b quote (grind (arith, nat_tests)) (grind (arith, nat_tests)))
    (λ _. by_cases P (is_between 49 57 b) _ _ (λ e. calm_first (length st) b e)
    (λ _. by_cases P (b == 110) _ _ (λ e. calm (length st) b quote (grind (arith, nat_tests)) (grind (arith, nat_tests)))
    (λ _. by_cases P (b == 116) _ _ (λ e. calm (length st) b quote (grind (arith, nat_tests)) (grind (arith, nat_tests)))
    (λ _. by_cases P (b == 102) _ _ (λ e. calm (length st) b quote (grind (arith, nat_tests)) (grind (arith, nat_tests)))
    (λ _. tt)))))))))

value_sees : (st : List Frame) (b : ℕ) → Sees outside (length st) b (m.value_step st b)
unfolding place_of open_of
value_sees st b = by_cases (Sees outside (length st) b) (is_space b) _ _ (λ e. calm_space (length st) b e) (λ _. open_sees st b)

close_sees : (v : Tree) (st : List Frame) (b : ℕ) → Sees outside (length st) b (m.close_step v st b)
unfolding place_of open_of
close_sees v [] b = tt
close_sees v (m.in_list ws ∷ st) b =
    let P : Option State → Type 0 = Sees outside (suc (length st)) b in
    at_byte P (λ x. see outside (suc (length st)) x ≡ (outside, suc (length st))) b 44 _ _ (λ to. to refl)
    (λ _. at_byte P (λ x. see outside (suc (length st)) x ≡ (outside, length st)) b 93 _ _ (λ to. to (let e : suc (length st) - 1 ≡ length st = omega arith in ap (λ n. (outside, n)) e))
    (λ _. tt))
close_sees v (m.at_key ps k ∷ st) b =
    let P : Option State → Type 0 = Sees outside (suc (length st)) b in
    at_byte P (λ x. see outside (suc (length st)) x ≡ (outside, length st + 1)) b 44 _ _ (λ to. to (let e : suc (length st) ≡ length st + 1 = omega arith in ap (λ n. (outside, n)) e))
    (λ _. at_byte P (λ x. see outside (suc (length st)) x ≡ (outside, length st)) b 125 _ _ (λ to. to (let e : suc (length st) - 1 ≡ length st = omega arith in ap (λ n. (outside, n)) e))
    (λ _. tt))

after_sees : (v : Tree) (st : List Frame) (b : ℕ) → Sees outside (length st) b (m.after_step v st b)
unfolding place_of open_of
after_sees v st b = by_cases (Sees outside (length st) b) (is_space b) _ _ (λ e. calm_space (length st) b e) (λ _. close_sees v st b)

first_sees : (st : List Frame) (b : ℕ) → Sees outside (length st + 1) b (m.first_step st b)
unfolding place_of open_of
first_sees st b =
    let P : Option State → Type 0 = Sees outside (length st + 1) b in
    by_cases P (is_space b) _ _ (λ e. calm_space (length st + 1) b e)
    (λ _. at_byte P (λ x. see outside (length st + 1) x ≡ (outside, length st)) b 93 _ _ (λ to. to (let e : length st + 1 - 1 ≡ length st = omega arith in ap (λ n. (outside, n)) e))
    (λ _. let e : suc (length st) ≡ length st + 1 = omega arith in subst (λ n. Sees outside n b (m.open_step (m.in_list none ∷ st) b)) e (open_sees (m.in_list none ∷ st) b)))

key_text_sees : (d b : ℕ) (x : State) → (see outside d 34 ≡ (place_of x.0, open_of x.0 x.1)) → Sees outside d b (cond (b == 34) (Some x) None)
key_text_sees d b x h = at_byte (Sees outside d b) (λ y. see outside d y ≡ (place_of x.0, open_of x.0 x.1)) b 34 _ _ (λ to. to h) (λ _. tt)

first_key_sees : (st : List Frame) (b : ℕ) → Sees outside (length st + 1) b (m.first_key_step st b)
unfolding place_of open_of
first_key_sees st b =
    let P : Option State → Type 0 = Sees outside (length st + 1) b in
    by_cases P (is_space b) _ _ (λ e. calm_space (length st + 1) b e)
    (λ _. at_byte P (λ x. see outside (length st + 1) x ≡ (outside, length st)) b 125 _ _ (λ to. to (let e : length st + 1 - 1 ≡ length st = omega arith in ap (λ n. (outside, n)) e))
    (λ _. key_text_sees (length st + 1) b _ refl))

key_sees : (ps : Pairs) (st : List Frame) (b : ℕ) → Sees outside (length st + 1) b (m.key_step ps st b)
unfolding place_of open_of
key_sees ps st b = by_cases (Sees outside (length st + 1) b) (is_space b) _ _ (λ e. calm_space (length st + 1) b e) (λ _. key_text_sees (length st + 1) b _ refl)

colon_sees : (ps : Pairs) (k : List ℕ) (st : List Frame) (b : ℕ) → Sees outside (length st + 1) b (m.colon_step ps k st b)
unfolding place_of open_of
colon_sees ps k st b =
    by_cases (Sees outside (length st + 1) b) (is_space b) _ _ (λ e. calm_space (length st + 1) b e)
    (λ _. at_byte (Sees outside (length st + 1) b) (λ x. see outside (length st + 1) x ≡ (outside, suc (length st))) b 58 _ _
    (λ to. to (let e : length st + 1 ≡ suc (length st) = omega arith in ap (λ n. (outside, n)) e)) (λ _. tt))

-- strings
ended_sees : (purpose : Purpose) (s : List ℕ) (st : List Frame) → see inside (with_key purpose (length st)) 34 ≡ (place_of (m.ended purpose s), open_of (m.ended purpose s) st)
unfolding place_of open_of
ended_sees m.as_value s st = refl
ended_sees (m.as_key ps) s st = refl

lead_sees : (purpose : Purpose) (p : Option ℕ) (c : List ℕ) (st : List Frame) (b : ℕ) (o : Option Tail) →
    (b == 34) ≡ false → (b == 92) ≡ false → Sees inside (with_key purpose (length st)) b (m.lead_step purpose p c st b o)
unfolding place_of open_of
lead_sees purpose p c st b None h k = tt
lead_sees purpose p c st b (Some t) h k = still _ b h k

text_sees : (purpose : Purpose) (p : Option ℕ) (c : List ℕ) (st : List Frame) (b : ℕ) → Sees inside (with_key purpose (length st)) b (m.text_step purpose p c st b)
unfolding place_of open_of
text_sees purpose p c st b =
    let d = with_key purpose (length st) in
    let P : Option State → Type 0 = Sees inside (with_key purpose (length st)) b in
    at_byte P (λ x. see inside (with_key purpose (length st)) x ≡ (place_of (m.ended purpose _), open_of (m.ended purpose _) st)) b 34 _ _ (λ to. to (ended_sees purpose _ st))
    (λ quote. by_cases P (b == 92) _ _ (λ e. rw (quote, e) refl)
    (λ slash. by_cases P (nat_lt b 32) _ _ (λ _. tt)
    (λ _. by_cases P (nat_lt b 128) _ _ (λ _. still _ b quote slash)
    (λ _. lead_sees purpose p c st b (lead b) quote slash))))

short_sees : (purpose : Purpose) (p : Option ℕ) (c : List ℕ) (st : List Frame) (b : ℕ) (o : Option ℕ) → Sees behind_backslash (with_key purpose (length st)) b (m.short_step purpose p c st o)
unfolding place_of open_of
short_sees purpose p c st b None = tt
short_sees purpose p c st b (Some x) = refl

escape_sees : (purpose : Purpose) (p : Option ℕ) (c : List ℕ) (st : List Frame) (b : ℕ) → Sees behind_backslash (with_key purpose (length st)) b (m.escape_step purpose p c st b)
unfolding place_of open_of
escape_sees purpose p c st b = by_cases (Sees behind_backslash (with_key purpose (length st)) b) (b == 117) _ _ (λ _. refl) (λ _. short_sees purpose p c st b (escaped b))

one_of_sees : (w : Where) (d b : ℕ) (c : Bool) (M N : Mode) (st : List Frame) → Sees w d b (Some (M, st)) → Sees w d b (Some (N, st)) → Sees w d b (Some (cond c M N, st))
one_of_sees w d b true M N st h k = h
one_of_sees w d b false M N st h k = k

unit_sees : (purpose : Purpose) (p : Option ℕ) (c : List ℕ) (u : ℕ) (st : List Frame) (b : ℕ) →
    see inside (with_key purpose (length st)) b ≡ (inside, with_key purpose (length st)) → Sees inside (with_key purpose (length st)) b (Some (m.add_unit purpose p c u, st))
unfolding place_of open_of
unit_sees purpose None c u st b h = one_of_sees inside _ b (is_high u) _ _ st h h
unit_sees purpose (Some x) c u st b h = one_of_sees inside _ b (is_high u) _ _ st h (one_of_sees inside _ b (is_low u) _ _ st h h)

hex_quote : (b d : ℕ) → hex_digit b ≡ Some d → (b == 34) ≡ false
hex_quote b d h = grind (arith, nat_tests)

hex_slash : (b d : ℕ) → hex_digit b ≡ Some d → (b == 92) ≡ false
hex_slash b d h = grind (arith, nat_tests)

hex_sees : (purpose : Purpose) (p : Option ℕ) (c : List ℕ) (n a : ℕ) (st : List Frame) (b : ℕ) (o : Option ℕ) →
    hex_digit b ≡ o → Sees inside (with_key purpose (length st)) b (m.hex_step purpose p c n a st o)
unfolding place_of open_of
hex_sees purpose p c n a st b None h = tt
hex_sees purpose p c zero a st b (Some d) h = unit_sees purpose p c (16 * a + d) st b (still _ b (hex_quote b d h) (hex_slash b d h))
hex_sees purpose p c (suc n) a st b (Some d) h = still _ b (hex_quote b d h) (hex_slash b d h)

-- each byte behind the first one of a character is at least 128
pub low_large : (t : Tail) → 128 ≤ low t
low_large one = omega arith
low_large two = omega arith
low_large three = omega arith
low_large after_e0 = omega arith
low_large after_ed = omega arith
low_large after_f0 = omega arith
low_large after_f4 = omega arith

-- a byte from 128 on changes nothing inside
pub large_still : (d b n k : ℕ) → 128 ≤ n → is_between n k b ≡ true → see inside d b ≡ (inside, d)
large_still d b n k h e = still d b (grind (arith, nat_tests)) (grind (arith, nat_tests))

bytes_to_sees : (purpose : Purpose) (p : Option ℕ) (c : List ℕ) (o : Option Tail) (got : List ℕ) (st : List Frame) (b : ℕ) →
    see inside (with_key purpose (length st)) b ≡ (inside, with_key purpose (length st)) →
    Sees inside (with_key purpose (length st)) b (Some (m.bytes_to purpose p c o got, st))
unfolding place_of open_of
bytes_to_sees purpose p c None got st b h = h
bytes_to_sees purpose p c (Some t) got st b h = h

bytes_sees : (purpose : Purpose) (p : Option ℕ) (c : List ℕ) (t : Tail) (got : List ℕ) (st : List Frame) (b : ℕ) → Sees inside (with_key purpose (length st)) b (m.bytes_step purpose p c t got st b)
bytes_sees purpose p c t got st b =
    by_cases (Sees inside (with_key purpose (length st)) b) (is_between (low t) (high t) b) _ _
    (λ e. bytes_to_sees purpose p c (later t) _ st b (large_still _ b (low t) (high t) (low_large t) e)) (λ _. tt)

-- numbers and words
abbrev Calm : ℕ → ℕ → Option Part → Type 0
Calm d b None = Unit {0}
Calm d b (Some q) = see outside d b ≡ (outside, d)

go_calm : (part : Part) (d b : ℕ) → Calm d b (go_on part b)
go_calm m.minus d b = by_cases (Calm d b) (b == 48) _ _ (λ e. calm_digit d b (grind (arith, nat_tests))) (λ _. by_cases (Calm d b) (is_between 49 57 b) _ _ (λ e. calm_first d b e) (λ _. tt))
go_calm m.nought d b = at_byte (Calm d b) (λ x. see outside d x ≡ (outside, d)) b 46 _ _ (λ to. to refl) (λ _. by_cases (Calm d b) (is_letter b) _ _ (λ e. calm_letter d b e) (λ _. tt))
go_calm m.whole d b = by_cases (Calm d b) (is_digit b) _ _ (λ e. calm_digit d b e)
    (λ _. at_byte (Calm d b) (λ x. see outside d x ≡ (outside, d)) b 46 _ _ (λ to. to refl) (λ _. by_cases (Calm d b) (is_letter b) _ _ (λ e. calm_letter d b e) (λ _. tt)))
go_calm m.dot d b = by_cases (Calm d b) (is_digit b) _ _ (λ e. calm_digit d b e) (λ _. tt)
go_calm m.digits d b = by_cases (Calm d b) (is_digit b) _ _ (λ e. calm_digit d b e) (λ _. by_cases (Calm d b) (is_letter b) _ _ (λ e. calm_letter d b e) (λ _. tt))
go_calm m.letter d b = by_cases (Calm d b) (is_digit b) _ _ (λ e. calm_digit d b e) (λ _. by_cases (Calm d b) (is_sign b) _ _ (λ e. calm_sign d b e) (λ _. tt))
go_calm m.sign d b = by_cases (Calm d b) (is_digit b) _ _ (λ e. calm_digit d b e) (λ _. tt)
go_calm m.power d b = by_cases (Calm d b) (is_digit b) _ _ (λ e. calm_digit d b e) (λ _. tt)

number_sees : (part : Part) (s : List ℕ) (st : List Frame) (b : ℕ) (o : Option Part) → Calm (length st) b o → Sees outside (length st) b (m.number_step part s st b o)
unfolding place_of open_of
number_sees part s st b None h = by_cases (Sees outside (length st) b) (may_end part) _ _ (λ _. after_sees _ st b) (λ _. tt)
number_sees part s st b (Some q) h = h

word_sees : (w : m.Word) (st : List Frame) (b : ℕ) → Sees outside (length st) b (m.word_step w st b)
unfolding place_of open_of
word_sees m.so_n st b = at_byte (Sees outside (length st) b) (λ x. see outside (length st) x ≡ (outside, length st)) b 117 _ _ (λ to. to refl) (λ _. tt)
word_sees m.so_nu st b = at_byte (Sees outside (length st) b) (λ x. see outside (length st) x ≡ (outside, length st)) b 108 _ _ (λ to. to refl) (λ _. tt)
word_sees m.so_nul st b = at_byte (Sees outside (length st) b) (λ x. see outside (length st) x ≡ (outside, length st)) b 108 _ _ (λ to. to refl) (λ _. tt)
word_sees m.so_t st b = at_byte (Sees outside (length st) b) (λ x. see outside (length st) x ≡ (outside, length st)) b 114 _ _ (λ to. to refl) (λ _. tt)
word_sees m.so_tr st b = at_byte (Sees outside (length st) b) (λ x. see outside (length st) x ≡ (outside, length st)) b 117 _ _ (λ to. to refl) (λ _. tt)
word_sees m.so_tru st b = at_byte (Sees outside (length st) b) (λ x. see outside (length st) x ≡ (outside, length st)) b 101 _ _ (λ to. to refl) (λ _. tt)
word_sees m.so_f st b = at_byte (Sees outside (length st) b) (λ x. see outside (length st) x ≡ (outside, length st)) b 97 _ _ (λ to. to refl) (λ _. tt)
word_sees m.so_fa st b = at_byte (Sees outside (length st) b) (λ x. see outside (length st) x ≡ (outside, length st)) b 108 _ _ (λ to. to refl) (λ _. tt)
word_sees m.so_fal st b = at_byte (Sees outside (length st) b) (λ x. see outside (length st) x ≡ (outside, length st)) b 115 _ _ (λ to. to refl) (λ _. tt)
word_sees m.so_fals st b = at_byte (Sees outside (length st) b) (λ x. see outside (length st) x ≡ (outside, length st)) b 101 _ _ (λ to. to refl) (λ _. tt)

mark_sees : (st : List Frame) (b k : ℕ) (x : State) → see outside (length st) k ≡ (place_of x.0, open_of x.0 x.1) → Sees outside (length st) b (cond (b == k) (Some x) None)
mark_sees st b k x h = at_byte (Sees outside (length st) b) (λ y. see outside (length st) y ≡ (place_of x.0, open_of x.0 x.1)) b k _ _ (λ to. to h) (λ _. tt)

begin_sees : (st : List Frame) (b : ℕ) → Sees outside (length st) b (m.begin_step st b)
unfolding place_of open_of
begin_sees st b = at_byte (Sees outside (length st) b) (λ x. see outside (length st) x ≡ (outside, length st)) b 0xEF _ _ (λ to. to refl) (λ _. value_sees st b)

-- one step of the machine is one step of the count
pub step_sees : (m : Mode) (st : List Frame) (b : ℕ) → Sees (place_of m) (open_of m st) b (step m st b)
unfolding place_of open_of step
step_sees m.begin st b = begin_sees st b
step_sees m.mark_two st b = mark_sees st b 0xBB (m.mark_one, st) refl
step_sees m.mark_one st b = mark_sees st b 0xBF (m.value, st) refl
step_sees m.value st b = value_sees st b
step_sees m.first st b = first_sees st b
step_sees m.first_key st b = first_key_sees st b
step_sees (m.key ps) st b = key_sees ps st b
step_sees (m.colon ps k) st b = colon_sees ps k st b
step_sees (m.after v) st b = after_sees v st b
step_sees (m.text purpose p c) st b = text_sees purpose p c st b
step_sees (m.escape purpose p c) st b = escape_sees purpose p c st b
step_sees (m.hex purpose p c n a) st b = hex_sees purpose p c n a st b (hex_digit b) refl
step_sees (m.bytes purpose p c t got) st b = bytes_sees purpose p c t got st b
step_sees (m.number part s) st b = number_sees part s st b (go_on part b) (go_calm part (length st) b)
step_sees (m.word w) st b = word_sees w st b

abbrev Saw : Mode → List Frame → List ℕ → Option State → Type 0
Saw m st bs None = Unit {0}
Saw m st bs (Some x) = seen (place_of m, open_of m st) bs ≡ (place_of x.0, open_of x.0 x.1)

saw_on : (m : Mode) (st : List Frame) (b : ℕ) (bs : List ℕ) (x : State) →
    see (place_of m) (open_of m st) b ≡ (place_of x.0, open_of x.0 x.1) → (o : Option State) → Saw x.0 x.1 bs o → Saw m st (b ∷ bs) o
unfolding seen
saw_on m st b bs x h None k = tt
saw_on m st b bs x h (Some y) k = ap (λ z. seen z bs) h ∙ k

saw_step : (m : Mode) (st : List Frame) (b : ℕ) (bs : List ℕ) (o : Option State) → Sees (place_of m) (open_of m st) b o →
    ((n : Mode) (su : List Frame) → Saw n su bs (reach bs n su)) → Saw m st (b ∷ bs) (reaches (reach bs) o)
unfolding seen
saw_step m st b bs None h k = tt
saw_step m st b bs (Some x) h k = saw_on m st b bs x h (reach bs x.0 x.1) (k x.0 x.1)

-- over any bytes that lead to a state, the count of brackets comes to the place and depth of that state
pub reach_saw : (bs : List ℕ) (m : Mode) (st : List Frame) → Saw m st bs (reach bs m st)
unfolding reach seen
reach_saw [] m st = refl
reach_saw (b ∷ bs) m st = saw_step m st b bs (step m st b) (step_sees m st b) (reach_saw bs)

-- the depth behind bytes that lead to a state
pub reach_depth : (p : List ℕ) (x : State) → reach p m.begin [] ≡ Some x → depth p ≡ open_of x.0 x.1
unfolding place_of open_of
reach_depth p x h = let k : seen (outside, 0) p ≡ (place_of x.0, open_of x.0 x.1) = subst (λ o. Saw m.begin [] p o) h (reach_saw p m.begin []) in ap (λ (y : Seen). y.1) k
