-- Plain tokens at the front of bytes, and the machine over whole tokens.
use Rattle.std.proofs.Common.{◌≡◌, ℕ, ◌+◌, ◌-◌, ◌<◌, ◌≤◌, ◌⊎◌, inl, inr, List, [], ◌∷◌, ◌++◌, length, take, drop, get_or, true, false, ◌==◌, Option, Some, None}
use Rattle.std.proofs.Common.{refl, sym, ◌∙◌, ap, subst, arith, append_assoc, append-nil, length-append}
use Rattle.std.specs.Prelude.{All, IfSome}
use Rattle.std.specs.Str.{IsAscii}
use Rattle.std.proofs.lemmas.Bool.Decides.{nat_tests}
use Rattle.std.proofs.lemmas.List.{take_at, take_rest}
use Rattle.std.proofs.lemmas.List.Elements.{All-nil, All-cons, All-push, All-head, All-tail, All-weaker}
use Rattle.std.proofs.lemmas.Str.Ascii.{IsAscii-from_all}
use Rattle.ml_ratio.specs.JsonNumber.{is_between}
use Rattle.ml_json.specs.Tree.{Tree, none, Pairs, no_pairs}
use Rattle.ml_json.specs.Grammar.{is_space, Blank, no_blank, blank}
use Rattle.ml_json.specs.Machine as m
use Rattle.ml_json.specs.Machine.{Mode, Frame, State, Part, Purpose, step, open_step, open_of, with_key, go_on, may_end}
use Rattle.ml_json.specs.Leaps.{IsPlain, PlainString, first_part, Begins, first_byte, next_byte, PlainScalar, a_string, a_number, TakesByte, Passes, here, on}
use Rattle.ml_json.proofs.RunsRead.{by_cases, at_byte}
use Rattle.ml_json.proofs.TokenRuns.{ends, ends_digit, may_nought, may_whole, may_digits, first_digit, space_value}
use Rattle.ml_json.proofs.StringRuns.{text_plain}
use Rattle.ml_json.proofs.NumberLemmas.{go_on_ascii}

-- one way behind another
passes_then : {x y z : State} {s t r : List ℕ} → Passes x s y t → Passes y t z r → Passes x s z r
passes_then here q = q
passes_then (on e le p) q = on e le (passes_then p q)

-- behind a way at most 64 lists and maps are open, if no more were before it
pub passes_shallow : {x z : State} {s r : List ℕ} → open_of x.0 x.1 ≤ 64 → Passes x s z r → open_of z.0 z.1 ≤ 64
passes_shallow h here = h
passes_shallow h (on e le p) = passes_shallow le p

-- where a value is awaited
pub value_shallow : (n : Mode) (st : List Frame) → n ≡ m.value → open_of n st ≤ 64 → length st ≤ 64
unfolding open_of
value_shallow n st e le = subst (λ o. open_of o st ≤ 64) e le

-- where a value is awaited, a way that begins behind white space may as well begin before it
pub space_leaps : (n : Mode) (st : List Frame) → n ≡ m.value → open_of n st ≤ 64 → {s t r : List ℕ} {z : State} → Blank s t → Passes (n, st) t z r → Passes (n, st) s z r
space_leaps n st e le no_blank p = p
space_leaps n st e le (blank {b = b} sp w) p = on (subst (λ o. step o st b ≡ Some (o, st)) (sym e) (space_value st b sp)) le (space_leaps n st e le w p)

-- white space with one byte more of it
pub blank_more : {s t r : List ℕ} {b : ℕ} → Blank s t → t ≡ b ∷ r → is_space b ≡ true → Blank s r
blank_more {r = r} no_blank e sp = subst (λ t. Blank t r) (sym e) (blank sp no_blank)
blank_more (blank h w) e sp = blank h (blank_more w e sp)

-- bytes of which the first is known are that byte and all others behind it
pub starts : (bytes : List ℕ) (b : ℕ) → 1 ≤ length bytes → get_or bytes 0 0 ≡ b → bytes ≡ b ∷ take (length bytes - 1) (drop 1 bytes)
starts [] b h e = absurd (omega arith)
starts (a ∷ s) b h e = ap (λ x. x ∷ s) e ∙ ap (λ x. b ∷ x) (sym (take_rest (a ∷ s) 1))

-- a text that has the property stands before the rest
pub record Front (P : List ℕ → Type 0) (bytes rest : List ℕ) : Type 0 where
  pub text : List ℕ
  pub holds : P text
  pub split : bytes ≡ text ++ rest

-- it grows by the first byte of the rest
pub front_more : {P Q : List ℕ → Type 0} {bytes rest next : List ℕ} (b : ℕ) → Front P bytes rest → rest ≡ b ∷ next → ((text : List ℕ) → P text → Q (text ++ b ∷ [])) → Front Q bytes next
front_more {next = next} b f e h = record {
  text = f.text ++ b ∷ [];
  holds = h f.text f.holds;
  split = f.split ∙ ap (λ r. f.text ++ r) e ∙ sym (append_assoc f.text (b ∷ []) next);
}

-- the bytes before the rest, taken by their count, are a text that has the property
pub record Taken (P : List ℕ → Type 0) (bytes rest : List ℕ) : Type 0 where
  pub within : length rest ≤ length bytes
  pub holds : P (take (length bytes - length rest) bytes)
  pub split : bytes ≡ take (length bytes - length rest) bytes ++ rest

-- a text before the rest may be taken by its count
pub front_taken : {P : List ℕ → Type 0} {bytes rest : List ℕ} → Front P bytes rest → Taken P bytes rest
front_taken {P} {bytes} {rest} f =
    let n : length bytes ≡ length f.text + length rest = ap length f.split ∙ length-append f.text rest in
    let k : length f.text ≡ length bytes - length rest = omega arith in
    let same : take (length bytes - length rest) bytes ≡ f.text = ap (take (length bytes - length rest)) f.split ∙ take_at f.text rest (length bytes - length rest) k in
    record { within = omega arith; holds = subst P (sym same) f.holds; split = f.split ∙ ap (λ t. t ++ rest) (sym same) }

abbrev IsLow : ℕ → Type 0
IsLow b = b < 128

plain_low : (b : ℕ) → IsPlain b → IsLow b
plain_low b h = grind (arith, nat_tests)

-- plain bytes are ASCII
pub plain_ascii : (text : List ℕ) → All IsPlain text → IsAscii text
plain_ascii text h = IsAscii-from_all text (All-weaker IsPlain IsLow plain_low text h)

first_low : (b : ℕ) (part : Part) → first_part b ≡ Some part → IsLow b
first_low b part h = grind (arith, nat_tests)

number_low : {text : List ℕ} {part : Part} → Begins text part → All IsLow text
number_low (first_byte {b} {part} e) = All-cons IsLow b [] (first_low b part e) (All-nil IsLow)
number_low (next_byte {text} {part} {next} b g e) = All-push IsLow text b (number_low g) (go_on_ascii part next b e)

-- and so are the bytes of a number
pub number_ascii : {text : List ℕ} {part : Part} → Begins text part → IsAscii text
number_ascii {text} g = IsAscii-from_all text (number_low g)

-- in a string, the machine goes over plain bytes and adds them to the text
plain_passes : (purpose : Purpose) (st : List Frame) → with_key purpose (length st) ≤ 64 → (text rest c : List ℕ) → All IsPlain text
    → Passes (m.text purpose None c, st) (text ++ rest) (m.text purpose None (c ++ text), st) rest
unfolding step open_of
plain_passes purpose st le [] rest c h = subst (λ x. Passes (m.text purpose None c, st) rest (m.text purpose None x, st) rest) (sym (append-nil c)) here
plain_passes purpose st le (b ∷ text) rest c h =
    on (text_plain purpose None c st b (All-head IsPlain b text h)) le
    (subst (λ x. Passes (m.text purpose None (c ++ b ∷ []), st) (text ++ rest) (m.text purpose None x, st) rest) (append_assoc c (b ∷ []) text)
    (plain_passes purpose st le text rest (c ++ b ∷ []) (All-tail IsPlain b text h)))

ended_open : (purpose : Purpose) (text : List ℕ) (st : List Frame) → open_of (m.ended purpose text) st ≡ with_key purpose (length st)
unfolding open_of
ended_open m.as_value text st = refl
ended_open (m.as_key ps) text st = refl

-- from where a string may begin, over a plain one
string_passes : (x : State) (purpose : Purpose) (st : List Frame) → with_key purpose (length st) ≤ 64 → step x.0 x.1 34 ≡ Some (m.text purpose None [], st)
    → (text s r : List ℕ) → PlainString text s r → Passes x s (m.ended purpose text, st) r
unfolding step open_of
string_passes x purpose st le h text s r p =
    let quote : step (m.text purpose None text) st 34 ≡ Some (m.ended purpose text, st) = ap (λ k. m.to (m.ended purpose k) st) (append-nil text) in
    subst (λ s. Passes x s (m.ended purpose text, st) r) (sym p.1)
    (on h le (passes_then (plain_passes purpose st le text (34 ∷ r) [] p.0) (on quote (omega (arith, ended_open purpose text st)) here)))

-- a key, in a mode in which one may come behind these members
abbrev pub TakesKey : Mode → Pairs → Type 0
TakesKey n ps = ((n ≡ m.first_key) × (ps ≡ no_pairs)) ⊎ (n ≡ m.key ps)

key_starts : (n : Mode) (ps : Pairs) (st : List Frame) → TakesKey n ps → (step n st 34 ≡ Some (m.text (m.as_key ps) None [], st)) × (open_of n st ≡ length st + 1)
unfolding step open_of
key_starts n ps st (inl x) = (rw (x.0, x.1) refl, rw x.0 refl)
key_starts n ps st (inr e) = (rw e refl, rw e refl)

-- where a key may come, the machine goes over a plain key and its colon to where the value is awaited
pub key_leaps : (n : Mode) (ps : Pairs) (st : List Frame) → TakesKey n ps → open_of n st ≤ 64 → (k s r : List ℕ) → PlainString k s (58 ∷ r) → Passes (n, st) s (m.value, m.at_key ps k ∷ st) r
unfolding step open_of
key_leaps n ps st takes le k s r p =
    let w = key_starts n ps st takes in
    let deep : length st + 1 ≤ 64 = omega (arith, w.1) in
    passes_then (string_passes (n, st) (m.as_key ps) st deep w.0 k s (58 ∷ r) p) (on refl (omega (arith, deep)) here)

-- in a state, the first byte of a value does what it does where one is awaited within these frames
abbrev pub Awaits : State → List Frame → Type 0
Awaits x st = (b : ℕ) → is_space b ≡ false → (b == 93) ≡ false → step x.0 x.1 b ≡ m.value_step st b

-- where a value is awaited
pub value_awaits : (n : Mode) (st : List Frame) → n ≡ m.value → Awaits (n, st) st
unfolding step
value_awaits n st e b sp c = rw e refl

-- and where a list may have its first item
first_awaits : (n : Mode) (st : List Frame) → n ≡ m.first → Awaits (n, st) (m.in_list none ∷ st)
unfolding step
first_awaits n st e b sp c = rw (e, sp, c) refl

opens_number : (st : List Frame) (b : ℕ) → IfSome (first_part b) (λ part. m.value_step st b ≡ Some (m.number part (b ∷ []), st))
opens_number st b =
    let P : Option Part → Type 0 = λ o. IfSome o (λ part. m.value_step st b ≡ Some (m.number part (b ∷ []), st)) in
    at_byte P (λ x. m.value_step st x ≡ Some (m.number m.minus (x ∷ []), st)) b 45 _ _ (λ to. to refl)
    (λ _. at_byte P (λ x. m.value_step st x ≡ Some (m.number m.nought (x ∷ []), st)) b 48 _ _ (λ to. to refl)
    (λ _. by_cases P (is_between 49 57 b) _ _ (λ e. first_digit st b e) (λ _. tt)))

number_begins : (x : State) (st : List Frame) → Awaits x st → (b : ℕ) (part : Part) → first_part b ≡ Some part → step x.0 x.1 b ≡ Some (m.number part (b ∷ []), st)
number_begins x st w b part e =
    let sp : is_space b ≡ false = grind (arith, nat_tests) in
    let c : (b == 93) ≡ false = grind (arith, nat_tests) in
    w b sp c ∙ subst (λ o. IfSome o (λ part. m.value_step st b ≡ Some (m.number part (b ∷ []), st))) e (opens_number st b)

-- from where a value may begin, over what begins a number
number_passes : (x : State) (st : List Frame) → Awaits x st → length st ≤ 64 → {text : List ℕ} {part : Part} → Begins text part → (rest : List ℕ)
    → Passes x (text ++ rest) (m.number part text, st) rest
unfolding step open_of
number_passes x st w le (first_byte {b} {part} e) rest = on (number_begins x st w b part e) le here
number_passes x st w le (next_byte {text} {part} {next} b g e) rest =
    subst (λ s. Passes x s (m.number next (text ++ b ∷ []), st) rest) (sym (append_assoc text (b ∷ []) rest))
    (passes_then (number_passes x st w le g (b ∷ rest)) (on (ap (m.number_step part text st b) e) le here))

stops : (part : Part) (b : ℕ) → may_end part ≡ true → ends b ≡ true → go_on part b ≡ None
stops m.minus b e h = absurd (cc)
stops m.nought b e h = may_nought.none b h
stops m.whole b e h = may_whole.none b h
stops m.dot b e h = absurd (cc)
stops m.digits b e h = may_digits.none b h
stops m.letter b e h = absurd (cc)
stops m.sign b e h = absurd (cc)
stops m.power b e h = rw (ends_digit b h) refl

taken_ends : (st : List Frame) (b : ℕ) → TakesByte st b → ends b ≡ true
taken_ends [] b taken = absurd taken
taken_ends (m.in_list ws ∷ st) b (inl e) = rw e refl
taken_ends (m.in_list ws ∷ st) b (inr e) = rw e refl
taken_ends (m.at_key ps k ∷ st) b (inl e) = rw e refl
taken_ends (m.at_key ps k ∷ st) b (inr e) = rw e refl

-- from where a value may begin, over a plain scalar and the byte by which its list or map goes on or ends
pub scalar_leaps : (x : State) (st : List Frame) → Awaits x st → length st ≤ 64 → {v : Tree} {s : List ℕ} (b : ℕ) (t : List ℕ) (y : State) →
    PlainScalar v s (b ∷ t) → TakesByte st b → m.after_step v st b ≡ Some y → open_of y.0 y.1 ≤ 64 → Passes x s y t
unfolding step open_of
scalar_leaps x st w le b t y (a_string {text} {bytes} p) taken h hy = passes_then (string_passes x m.as_value st le (w 34 refl refl) text bytes (b ∷ t) p) (on h hy here)
scalar_leaps x st w le b t y (a_number {text} (part, g, e, split)) taken h hy =
    let closes : step (m.number part text) st b ≡ Some y = rw (stops part b e (taken_ends st b taken), e) h in
    subst (λ s. Passes x s y t) (sym split) (passes_then (number_passes x st w le g (b ∷ t)) (on closes hy here))

-- a list's first item with the comma behind it
pub first_leaps : (n : Mode) (st su : List Frame) → n ≡ m.first → open_of n st ≤ 64 → {v : Tree} {s : List ℕ} (t : List ℕ) →
    PlainScalar v s (44 ∷ t) → su ≡ m.in_list (m.snoc none v) ∷ st → Passes (n, st) s (m.value, su) t
unfolding open_of
first_leaps n st su e le {v} {s} t p u =
    let shallow : length st + 1 ≤ 64 = subst (λ o. open_of o st ≤ 64) e le in
    let deep : length (m.in_list none ∷ st) ≤ 64 = omega arith in
    subst (λ sv. Passes (n, st) s (m.value, sv) t) (sym u)
    (scalar_leaps (n, st) (m.in_list none ∷ st) (first_awaits n st e) deep 44 t (m.value, m.in_list (m.snoc none v) ∷ st) p (inl refl) refl (omega (arith, deep)))

-- where a value is awaited, the machine goes over the byte that is known to come
pub byte_leaps : (n o : Mode) (st : List Frame) (b : ℕ) → n ≡ m.value → step m.value st b ≡ Some (o, st) → open_of o st ≤ 64
    → (s : List ℕ) → 1 ≤ length s → get_or s 0 0 ≡ b → Passes (n, st) s (o, st) (take (length s - 1) (drop 1 s))
byte_leaps n o st b e h le s k f =
    let t = take (length s - 1) (drop 1 s) in
    subst (λ i. Passes (i, st) s (o, st) t) (sym e) (subst (λ u. Passes (m.value, st) u (o, st) t) (sym (starts s b k f)) (on h le here))
