-- What the machine reads, the grammar reads.
use Rattle.std.proofs.Common.{◌≡◌, ℕ, zero, suc, ◌+◌, ◌*◌, inl, inr, List, [], ◌∷◌, ◌++◌, Bool, true, false, cond}
use Rattle.std.proofs.Common.{nat_lt, ◌==◌, Option, Some, None, refl, sym, ap, subst, arith, append_assoc, append-nil}
use Rattle.std.proofs.lemmas.Bool.Decides.{nat_tests}
use Rattle.std.proofs.lemmas.Bool.{eqb-true}
use Rattle.ml_json.specs.Tree.{Tree, null, flag, num, str, list, map, Trees, none, more, Pairs, no_pairs, pair, put, put_all}
use Rattle.ml_json.specs.Machine.{snoc, Mode, Frame, State, Part, Purpose, step, finish, may_end, go_on, is_letter, is_sign}
use Rattle.ml_json.specs.Grammar.{is_space, no_blank, blank, Value, a_null, a_true, a_false, a_number, a_string, empty_list, a_list}
use Rattle.ml_json.specs.Grammar.{empty_map, a_map, items, close, comma, members, close_map, comma_map, document, Reads, unmarked, marked}
use Rattle.ml_ratio.specs.JsonNumber.{is_digit, is_between, minus_number, plain_number, Unsigned, Tailed, exponent, no_exponent}
use Rattle.ml_ratio.specs.JsonNumber.{signed, unsigned, Signed, fraction, no_fraction, whole, nought, Digits, AllDigits}
use Rattle.ml_json.specs.Characters.{Tail, lead, low, high, later, Follows, end, next}
use Rattle.ml_json.specs.Strings.{escaped, hex_digit, is_high, is_low, replacement, single, both, lone, is_plain, Piece, char, unit, no_hex, hex, Written, quote, plain, longer, short, code, text_of}
use Rattle.ml_json.specs.Machine as m
use Rattle.ml_json.proofs.Runs.{run, goes}
use Rattle.ml_json.proofs.Remainders.{Closes, Started, Values, Keys, Colon, Ended, Completes, Text, Left}
use Rattle.ml_json.proofs.ValueRuns.{snoc_all-one}
use Rattle.ml_json.proofs.StringRuns.{char_joined}

-- what a test chooses has a property if each of the two has it where the test chooses it
pub by_cases : {A : Type 0} (P : A → Type 0) (c : Bool) (x y : A) → (c ≡ true → P x) → (c ≡ false → P y) → P (cond c x y)
by_cases P true x y h k = h refl
by_cases P false x y h k = k refl

-- the same at a byte that is known
pub at_byte : {A : Type 0} (P : A → Type 0) (Q : ℕ → Type 0) (b n : ℕ) (x y : A) → ((Q n → Q b) → P x) → ((b == n) ≡ false → P y) → P (cond (b == n) x y)
at_byte P Q b n x y h k = by_cases P (b == n) x y (λ e. h (λ q. subst Q (sym (eqb-true b n e)) q)) k

abbrev Back : List ℕ → Type 0
Back bs = (m : Mode) (st : List Frame) (t : Tree) → run bs m st ≡ Some t → Left m st bs t

-- a step that leads to t leads to X
abbrev Gives : List ℕ → Tree → Type 0 → Option State → Type 0
Gives bs t X o = goes (run bs) o ≡ Some t → X

nothing : (bs : List ℕ) (t : Tree) (X : Type 0) → Gives bs t X None
nothing bs t X h = absurd (cc)

open_list : (st : List Frame) (bs : List ℕ) (t : Tree) → Left m.first st bs t → Started st (91 ∷ bs) t
open_list st bs t (inl (r, bl, cl)) = (list none, r, empty_list bl, cl)
open_list st bs t (inr (s, bl, (v, u, val, (vs, r, rest, cl)))) =
    (list (more v vs), r, a_list (items bl val rest), subst (λ x. Closes (list x) st r t) (snoc_all-one v vs) cl)

open_map : (st : List Frame) (bs : List ℕ) (t : Tree) → Left m.first_key st bs t → Started st (123 ∷ bs) t
open_map st bs t (inl (r, bl, cl)) = (map no_pairs, r, empty_map bl, cl)
open_map st bs t (inr (ms, r, mem, cl)) = (map (put_all no_pairs ms), r, a_map mem, cl)

open_text : (st : List Frame) (bs : List ℕ) (t : Tree) → Text m.as_value None [] st bs t → Started st (34 ∷ bs) t
open_text st bs t (us, r, w, cl) = (str (text_of None us), r, a_string w, cl)

open_minus : (st : List Frame) (bs : List ℕ) (t : Tree) → Left (m.number m.minus (45 ∷ [])) st bs t → Started st (45 ∷ bs) t
open_minus st bs t (s, r, e, u, cl) = (num (45 ∷ s), r, a_number (minus_number u) (ap (λ x. 45 ∷ x) e), cl)

open_nought : (st : List Frame) (bs : List ℕ) (t : Tree) → Left (m.number m.nought (48 ∷ [])) st bs t → Started st (48 ∷ bs) t
open_nought st bs t (s, r, e, ta, cl) = (num (48 ∷ s), r, a_number (plain_number (48 ∷ [], s, refl, nought, ta)) (ap (λ x. 48 ∷ x) e), cl)

open_whole : (st : List Frame) (b : ℕ) (bs : List ℕ) (t : Tree) → is_between 49 57 b ≡ true → Left (m.number m.whole (b ∷ [])) st bs t → Started st (b ∷ bs) t
open_whole st b bs t h (s, r, e, (ds, u, eq, all, ta), cl) =
    (num (b ∷ s), r, a_number (plain_number (b ∷ ds, u, ap (λ x. b ∷ x) eq, whole h all, ta)) (ap (λ x. b ∷ x) e), cl)

open_null : (st : List Frame) (bs : List ℕ) (t : Tree) → Left (m.word m.so_n) st bs t → Started st (110 ∷ bs) t
open_null st bs t (r, e, cl) = (null, r, subst (λ x. Value null (110 ∷ x) r) (sym e) a_null, cl)

open_true : (st : List Frame) (bs : List ℕ) (t : Tree) → Left (m.word m.so_t) st bs t → Started st (116 ∷ bs) t
open_true st bs t (r, e, cl) = (flag true, r, subst (λ x. Value (flag true) (116 ∷ x) r) (sym e) a_true, cl)

open_false : (st : List Frame) (bs : List ℕ) (t : Tree) → Left (m.word m.so_f) st bs t → Started st (102 ∷ bs) t
open_false st bs t (r, e, cl) = (flag false, r, subst (λ x. Value (flag false) (102 ∷ x) r) (sym e) a_false, cl)

open_back : (bs : List ℕ) → Back bs → (st : List Frame) (b : ℕ) (t : Tree) → Gives bs t (Started st (b ∷ bs) t) (m.open_step st b)
open_back bs f st b t =
    let P : Option State → Type 0 = Gives bs t (Started st (b ∷ bs) t) in
    let Q : ℕ → Type 0 = λ x. Started st (x ∷ bs) t in
    at_byte P Q b 34 _ _ (λ to h. to (open_text st bs t (f _ st t h)))
    (λ _. at_byte P Q b 91 _ _ (λ to h. to (open_list st bs t (f _ st t h)))
    (λ _. at_byte P Q b 123 _ _ (λ to h. to (open_map st bs t (f _ st t h)))
    (λ _. at_byte P Q b 45 _ _ (λ to h. to (open_minus st bs t (f _ st t h)))
    (λ _. at_byte P Q b 48 _ _ (λ to h. to (open_nought st bs t (f _ st t h)))
    (λ _. by_cases P (is_between 49 57 b) _ _ (λ e h. open_whole st b bs t e (f _ st t h))
    (λ _. at_byte P Q b 110 _ _ (λ to h. to (open_null st bs t (f _ st t h)))
    (λ _. at_byte P Q b 116 _ _ (λ to h. to (open_true st bs t (f _ st t h)))
    (λ _. at_byte P Q b 102 _ _ (λ to h. to (open_false st bs t (f _ st t h)))
    (λ _. nothing bs t _)))))))))

value_back : (bs : List ℕ) → Back bs → (st : List Frame) (b : ℕ) (t : Tree) → Gives bs t (Values st (b ∷ bs) t) (m.value_step st b)
value_back bs f st b t =
    let P : Option State → Type 0 = Gives bs t (Values st (b ∷ bs) t) in
    by_cases P (is_space b) _ _ (λ e h. let v : Values st bs t = f m.value st t h in (v.0, blank e v.1, v.2)) (λ _ h. (b ∷ bs, no_blank, open_back bs f st b t h))

begin_back : (bs : List ℕ) → Back bs → (st : List Frame) (b : ℕ) (t : Tree) → Gives bs t (Left m.begin st (b ∷ bs) t) (m.begin_step st b)
begin_back bs f st b t =
    at_byte (Gives bs t (Left m.begin st (b ∷ bs) t)) (λ x. Left m.begin st (x ∷ bs) t) b 0xEF _ _
    (λ to h. let l : Left m.mark_two st bs t = f m.mark_two st t h in to (inr (l.0, ap (λ x. 0xEF ∷ x) l.1, l.2)))
    (λ _ h. inl (value_back bs f st b t h))

mark_two_back : (bs : List ℕ) → Back bs → (st : List Frame) (b : ℕ) (t : Tree) → Gives bs t (Left m.mark_two st (b ∷ bs) t) (cond (b == 0xBB) (m.to m.mark_one st) None)
mark_two_back bs f st b t =
    at_byte (Gives bs t (Left m.mark_two st (b ∷ bs) t)) (λ x. Left m.mark_two st (x ∷ bs) t) b 0xBB _ _
    (λ to h. let l : Left m.mark_one st bs t = f m.mark_one st t h in to (l.0, ap (λ x. 0xBB ∷ x) l.1, l.2))
    (λ _. nothing bs t _)

mark_one_back : (bs : List ℕ) → Back bs → (st : List Frame) (b : ℕ) (t : Tree) → Gives bs t (Left m.mark_one st (b ∷ bs) t) (cond (b == 0xBF) (m.to m.value st) None)
mark_one_back bs f st b t =
    at_byte (Gives bs t (Left m.mark_one st (b ∷ bs) t)) (λ x. Left m.mark_one st (x ∷ bs) t) b 0xBF _ _
    (λ to h. to (bs, refl, f m.value st t h))
    (λ _. nothing bs t _)

first_space : (st : List Frame) (b : ℕ) (bs : List ℕ) (t : Tree) → is_space b ≡ true → Left m.first st bs t → Left m.first st (b ∷ bs) t
first_space st b bs t e (inl (r, bl, cl)) = inl (r, blank e bl, cl)
first_space st b bs t e (inr (s, bl, v)) = inr (s, blank e bl, v)

first_back : (bs : List ℕ) → Back bs → (st : List Frame) (b : ℕ) (t : Tree) → Gives bs t (Left m.first st (b ∷ bs) t) (m.first_step st b)
first_back bs f st b t =
    by_cases (Gives bs t (Left m.first st (b ∷ bs) t)) (is_space b) _ _ (λ e h. first_space st b bs t e (f m.first st t h))
    (λ _. at_byte (Gives bs t (Left m.first st (b ∷ bs) t)) (λ x. Left m.first st (x ∷ bs) t) b 93 _ _ (λ to h. to (inl (bs, no_blank, f _ st t h)))
    (λ _ h. inr (b ∷ bs, no_blank, open_back bs f (m.in_list none ∷ st) b t h)))

keys_space : (ps : Pairs) (st : List Frame) (b : ℕ) (bs : List ℕ) (t : Tree) → is_space b ≡ true → Keys ps st bs t → Keys ps st (b ∷ bs) t
keys_space ps st b bs t e (ms, r, members bl w x y v rest, cl) = (ms, r, members (blank e bl) w x y v rest, cl)

first_key_space : (st : List Frame) (b : ℕ) (bs : List ℕ) (t : Tree) → is_space b ≡ true → Left m.first_key st bs t → Left m.first_key st (b ∷ bs) t
first_key_space st b bs t e (inl (r, bl, cl)) = inl (r, blank e bl, cl)
first_key_space st b bs t e (inr k) = inr (keys_space no_pairs st b bs t e k)

-- a key's text, its colon, the value and what follows are members
key_text : (ps : Pairs) (st : List Frame) (bs : List ℕ) (t : Tree) → Text (m.as_key ps) None [] st bs t → Keys ps st (34 ∷ bs) t
key_text ps st bs t (us, u, w, (x, before, (y, behind, (v, z, val, (ms, r, rest, cl))))) = (pair (text_of None us) v ms, r, members no_blank w before behind val rest, cl)

first_key_back : (bs : List ℕ) → Back bs → (st : List Frame) (b : ℕ) (t : Tree) → Gives bs t (Left m.first_key st (b ∷ bs) t) (m.first_key_step st b)
first_key_back bs f st b t =
    let P : Option State → Type 0 = Gives bs t (Left m.first_key st (b ∷ bs) t) in
    let Q : ℕ → Type 0 = λ x. Left m.first_key st (x ∷ bs) t in
    by_cases P (is_space b) _ _ (λ e h. first_key_space st b bs t e (f m.first_key st t h))
    (λ _. at_byte P Q b 125 _ _ (λ to h. to (inl (bs, no_blank, f _ st t h)))
    (λ _. at_byte P Q b 34 _ _ (λ to h. to (inr (key_text no_pairs st bs t (f _ st t h))))
    (λ _. nothing bs t _)))

key_back : (bs : List ℕ) → Back bs → (ps : Pairs) (st : List Frame) (b : ℕ) (t : Tree) → Gives bs t (Keys ps st (b ∷ bs) t) (m.key_step ps st b)
key_back bs f ps st b t =
    let P : Option State → Type 0 = Gives bs t (Keys ps st (b ∷ bs) t) in
    by_cases P (is_space b) _ _ (λ e h. keys_space ps st b bs t e (f (m.key ps) st t h))
    (λ _. at_byte P (λ x. Keys ps st (x ∷ bs) t) b 34 _ _ (λ to h. to (key_text ps st bs t (f _ st t h)))
    (λ _. nothing bs t _))

colon_back : (bs : List ℕ) → Back bs → (ps : Pairs) (k : List ℕ) (st : List Frame) (b : ℕ) (t : Tree) → Gives bs t (Colon ps k st (b ∷ bs) t) (m.colon_step ps k st b)
colon_back bs f ps k st b t =
    let P : Option State → Type 0 = Gives bs t (Colon ps k st (b ∷ bs) t) in
    by_cases P (is_space b) _ _ (λ e h. let l : Colon ps k st bs t = f (m.colon ps k) st t h in (l.0, blank e l.1, l.2))
    (λ _. at_byte P (λ x. Colon ps k st (x ∷ bs) t) b 58 _ _ (λ to h. to (bs, no_blank, f _ (m.at_key ps k ∷ st) t h))
    (λ _. nothing bs t _))

-- behind a value
after_space : (v : Tree) (st : List Frame) (b : ℕ) (bs : List ℕ) (t : Tree) → is_space b ≡ true → Closes v st bs t → Closes v st (b ∷ bs) t
after_space v [] b bs t e (bl, same) = (blank e bl, same)
after_space v (m.in_list ws ∷ st) b bs t e (vs, r, close bl, cl) = (vs, r, close (blank e bl), cl)
after_space v (m.in_list ws ∷ st) b bs t e (vs, r, comma bl i, cl) = (vs, r, comma (blank e bl) i, cl)
after_space v (m.at_key ps k ∷ st) b bs t e (ms, r, close_map bl, cl) = (ms, r, close_map (blank e bl), cl)
after_space v (m.at_key ps k ∷ st) b bs t e (ms, r, comma_map bl i, cl) = (ms, r, comma_map (blank e bl) i, cl)

list_comma : (v : Tree) (ws : Trees) (st : List Frame) (bs : List ℕ) (t : Tree) → Values (m.in_list (snoc ws v) ∷ st) bs t → Closes v (m.in_list ws ∷ st) (44 ∷ bs) t
list_comma v ws st bs t (s, bl, (w, u, val, (vs, r, rest, cl))) = (more w vs, r, comma no_blank (items bl val rest), cl)

close_back : (bs : List ℕ) → Back bs → (v : Tree) (st : List Frame) (b : ℕ) (t : Tree) → Gives bs t (Closes v st (b ∷ bs) t) (m.close_step v st b)
close_back bs f v [] b t = nothing bs t _
close_back bs f v (m.in_list ws ∷ st) b t =
    let P : Option State → Type 0 = Gives bs t (Closes v (m.in_list ws ∷ st) (b ∷ bs) t) in
    let Q : ℕ → Type 0 = λ x. Closes v (m.in_list ws ∷ st) (x ∷ bs) t in
    at_byte P Q b 44 _ _ (λ to h. to (list_comma v ws st bs t (f m.value (m.in_list (snoc ws v) ∷ st) t h)))
    (λ _. at_byte P Q b 93 _ _ (λ to h. to (none, bs, close no_blank, f _ st t h))
    (λ _. nothing bs t _))
close_back bs f v (m.at_key ps k ∷ st) b t =
    let P : Option State → Type 0 = Gives bs t (Closes v (m.at_key ps k ∷ st) (b ∷ bs) t) in
    let Q : ℕ → Type 0 = λ x. Closes v (m.at_key ps k ∷ st) (x ∷ bs) t in
    at_byte P Q b 44 _ _ (λ to h. to (let l : Keys (put k v ps) st bs t = f (m.key (put k v ps)) st t h in (l.0, l.1, comma_map no_blank l.2, l.3)))
    (λ _. at_byte P Q b 125 _ _ (λ to h. to (no_pairs, bs, close_map no_blank, f _ st t h))
    (λ _. nothing bs t _))

after_back : (bs : List ℕ) → Back bs → (v : Tree) (st : List Frame) (b : ℕ) (t : Tree) → Gives bs t (Closes v st (b ∷ bs) t) (m.after_step v st b)
after_back bs f v st b t =
    by_cases (Gives bs t (Closes v st (b ∷ bs) t)) (is_space b) _ _ (λ e h. after_space v st b bs t e (f (m.after v) st t h)) (λ _. close_back bs f v st b t)

-- strings
ended_left : (purpose : Purpose) (s : List ℕ) (st : List Frame) (bs : List ℕ) (t : Tree) → Left (m.ended purpose s) st bs t → Ended purpose s st bs t
ended_left m.as_value s st bs t l = l
ended_left (m.as_key ps) s st bs t l = l

char_text : (purpose : Purpose) (p : Option ℕ) (c : List ℕ) (st : List Frame) (x : List ℕ) (us : List Piece) (r : List ℕ) (t : Tree)
    → Ended purpose (m.add_char p c x ++ text_of None us) st r t → Ended purpose (c ++ text_of p (char x ∷ us)) st r t
char_text purpose p c st x us r t en = subst (λ y. Ended purpose y st r t) (char_joined p c x (text_of None us)) en

is_plain_byte : (b : ℕ) → (b == 34) ≡ false → (b == 92) ≡ false → nat_lt b 32 ≡ false → nat_lt b 128 ≡ true → is_plain b ≡ true
is_plain_byte b h k l n = grind (arith, nat_tests)

plain_text : (purpose : Purpose) (p : Option ℕ) (c : List ℕ) (st : List Frame) (b : ℕ) (bs : List ℕ) (t : Tree) →
    is_plain b ≡ true → Text purpose None (m.add_char p c (b ∷ [])) st bs t → Text purpose p c st (b ∷ bs) t
plain_text purpose p c st b bs t h (us, r, w, en) = (char (b ∷ []) ∷ us, r, plain h w, char_text purpose p c st (b ∷ []) us r t en)

long_text : (purpose : Purpose) (p : Option ℕ) (c : List ℕ) (st : List Frame) (b : ℕ) (bs : List ℕ) (t : Tree) (tl : Tail) →
    lead b ≡ Some tl → Left (m.bytes purpose p c tl (b ∷ [])) st bs t → Text purpose p c st (b ∷ bs) t
long_text purpose p c st b bs t tl h (cs, s, us, r, fo, e, w, en) = (char (b ∷ cs) ∷ us, r, longer h fo e w, en)

lead_back : (bs : List ℕ) → Back bs → (purpose : Purpose) (p : Option ℕ) (c : List ℕ) (st : List Frame) (b : ℕ) (t : Tree) (o : Option Tail) →
    lead b ≡ o → Gives bs t (Text purpose p c st (b ∷ bs) t) (m.lead_step purpose p c st b o)
lead_back bs f purpose p c st b t None e h = nothing bs t _ h
lead_back bs f purpose p c st b t (Some tl) e h = long_text purpose p c st b bs t tl e (f _ st t h)

text_back : (bs : List ℕ) → Back bs → (purpose : Purpose) (p : Option ℕ) (c : List ℕ) (st : List Frame) (b : ℕ) (t : Tree) → Gives bs t (Text purpose p c st (b ∷ bs) t) (m.text_step purpose p c st b)
text_back bs f purpose p c st b t =
    let P : Option State → Type 0 = Gives bs t (Text purpose p c st (b ∷ bs) t) in
    let Q : ℕ → Type 0 = λ x. Text purpose p c st (x ∷ bs) t in
    at_byte P Q b 34 _ _ (λ to h. to ([], bs, quote, ended_left purpose (c ++ lone p) st bs t (f _ st t h)))
    (λ g. at_byte P Q b 92 _ _ (λ to h. to (f (m.escape purpose p c) st t h))
    (λ i. by_cases P (nat_lt b 32) _ _ (λ _. nothing bs t _)
    (λ j. by_cases P (nat_lt b 128) _ _ (λ k h. plain_text purpose p c st b bs t (is_plain_byte b g i j k) (f _ st t h))
    (λ k. lead_back bs f purpose p c st b t (lead b) refl))))

short_text : (purpose : Purpose) (p : Option ℕ) (c : List ℕ) (st : List Frame) (b x : ℕ) (bs : List ℕ) (t : Tree) →
    escaped b ≡ Some x → Text purpose None (m.add_char p c (x ∷ [])) st bs t → Text purpose p c st (92 ∷ b ∷ bs) t
short_text purpose p c st b x bs t h (us, r, w, en) = (char (x ∷ []) ∷ us, r, short h w, char_text purpose p c st (x ∷ []) us r t en)

short_back : (bs : List ℕ) → Back bs → (purpose : Purpose) (p : Option ℕ) (c : List ℕ) (st : List Frame) (b : ℕ) (t : Tree) (o : Option ℕ) →
    escaped b ≡ o → Gives bs t (Text purpose p c st (92 ∷ b ∷ bs) t) (m.short_step purpose p c st o)
short_back bs f purpose p c st b t None e h = nothing bs t _ h
short_back bs f purpose p c st b t (Some x) e h = short_text purpose p c st b x bs t e (f _ st t h)

code_text : (purpose : Purpose) (p : Option ℕ) (c : List ℕ) (st : List Frame) (bs : List ℕ) (t : Tree) → Left (m.hex purpose p c 3 0) st bs t → Text purpose p c st (92 ∷ 117 ∷ bs) t
code_text purpose p c st bs t (u, us, s, r, hx, w, en) = (unit u ∷ us, r, code hx w, en)

escape_back : (bs : List ℕ) → Back bs → (purpose : Purpose) (p : Option ℕ) (c : List ℕ) (st : List Frame) (b : ℕ) (t : Tree) →
    Gives bs t (Text purpose p c st (92 ∷ b ∷ bs) t) (m.escape_step purpose p c st b)
escape_back bs f purpose p c st b t =
    at_byte (Gives bs t (Text purpose p c st (92 ∷ b ∷ bs) t)) (λ x. Text purpose p c st (92 ∷ x ∷ bs) t) b 117 _ _
    (λ to h. to (code_text purpose p c st bs t (f _ st t h)))
    (λ _. short_back bs f purpose p c st b t (escaped b) refl)

-- what a unit makes of the text
Unit_text : Purpose → Option ℕ → List ℕ → ℕ → List Frame → List ℕ → Tree → Type 0
Unit_text purpose p c u st bs t = (us : List Piece) × (r : List ℕ) × Written us bs r × Ended purpose (c ++ text_of p (unit u ∷ us)) st r t

pick_left : (purpose : Purpose) (c : List ℕ) (st : List Frame) (bs : List ℕ) (t : Tree) (b : Bool) (M N : Mode) (X Y : List Piece → List ℕ)
    → (Left M st bs t → (us : List Piece) × (r : List ℕ) × Written us bs r × Ended purpose (c ++ X us) st r t)
    → (Left N st bs t → (us : List Piece) × (r : List ℕ) × Written us bs r × Ended purpose (c ++ Y us) st r t)
    → Left (cond b M N) st bs t → (us : List Piece) × (r : List ℕ) × Written us bs r × Ended purpose (c ++ cond b (X us) (Y us)) st r t
pick_left purpose c st bs t true M N X Y h k l = h l
pick_left purpose c st bs t false M N X Y h k l = k l

moved : (purpose : Purpose) (q : Option ℕ) (c x : List ℕ) (st : List Frame) (bs : List ℕ) (t : Tree) → Text purpose q (c ++ x) st bs t →
    (us : List Piece) × (r : List ℕ) × Written us bs r × Ended purpose (c ++ (x ++ text_of q us)) st r t
moved purpose q c x st bs t (us, r, w, en) = (us, r, w, subst (λ y. Ended purpose y st r t) (append_assoc c x (text_of q us)) en)

unit_left : (purpose : Purpose) (p : Option ℕ) (c : List ℕ) (u : ℕ) (st : List Frame) (bs : List ℕ) (t : Tree) → Left (m.add_unit purpose p c u) st bs t → Unit_text purpose p c u st bs t
unfolding Unit_text
unit_left purpose None c u st bs t = pick_left purpose c st bs t (is_high u) _ _ (text_of (Some u)) (λ us. single u ++ text_of None us) (λ l. l) (moved purpose None c (single u) st bs t)
unit_left purpose (Some h) c u st bs t =
    pick_left purpose c st bs t (is_high u) _ _ (λ us. replacement ++ text_of (Some u) us) (λ us. cond (is_low u) (both h u ++ text_of None us) (replacement ++ (single u ++ text_of None us)))
    (moved purpose (Some u) c replacement st bs t)
    (pick_left purpose c st bs t (is_low u) _ _ (λ us. both h u ++ text_of None us) (λ us. replacement ++ (single u ++ text_of None us))
    (moved purpose None c (both h u) st bs t)
    (λ l. let q = moved purpose None c (replacement ++ single u) st bs t l in
    (q.0, q.1, q.2, subst (λ y. Ended purpose (c ++ y) st q.1 t) (append_assoc replacement (single u) (text_of None q.0)) q.3)))

hex_back : (bs : List ℕ) → Back bs → (purpose : Purpose) (p : Option ℕ) (c : List ℕ) (n a : ℕ) (st : List Frame) (b : ℕ) (t : Tree) (o : Option ℕ) → hex_digit b ≡ o
    → Gives bs t (Left (m.hex purpose p c n a) st (b ∷ bs) t) (m.hex_step purpose p c n a st o)
unfolding Unit_text
hex_back bs f purpose p c n a st b t None e h = nothing bs t _ h
hex_back bs f purpose p c zero a st b t (Some d) e h =
    let l = unit_left purpose p c (16 * a + d) st bs t (f _ st t h) in (16 * a + d, l.0, bs, l.1, hex e no_hex, l.2, l.3)
hex_back bs f purpose p c (suc n) a st b t (Some d) e h =
    let l : Left (m.hex purpose p c n (16 * a + d)) st bs t = f _ st t h in (l.0, l.1, l.2, l.3, hex e l.4, l.5, l.6)

bytes_more : (bs : List ℕ) → Back bs →
    (purpose : Purpose) (p : Option ℕ) (c : List ℕ) (tl : Tail) (got : List ℕ) (st : List Frame) (b : ℕ) (t : Tree) (o : Option Tail) → later tl ≡ o →
    is_between (low tl) (high tl) b ≡ true → Gives bs t (Left (m.bytes purpose p c tl got) st (b ∷ bs) t) (m.to (m.bytes_to purpose p c o (got ++ b ∷ [])) st)
bytes_more bs f purpose p c tl got st b t None e h run =
    let l : Text purpose None (m.add_char p c (got ++ b ∷ [])) st bs t = f _ st t run in
    (b ∷ [], bs, l.0, l.1, next h (subst (λ o. Follows o []) (sym e) end), refl, l.2, char_text purpose p c st (got ++ b ∷ []) l.0 l.1 t l.3)
bytes_more bs f purpose p c tl got st b t (Some after) e h run =
    let l : Left (m.bytes purpose p c after (got ++ b ∷ [])) st bs t = f _ st t run in (
      b ∷ l.0,
      l.1,
      l.2,
      l.3,
      next h (subst (λ o. Follows o l.0) (sym e) l.4),
      ap (λ x. b ∷ x) l.5,
      l.6,
      subst (λ y. Ended purpose (c ++ text_of p (char y ∷ l.2)) st l.3 t) (append_assoc got (b ∷ []) l.0) l.7,
    )

bytes_back : (bs : List ℕ) → Back bs → (purpose : Purpose) (p : Option ℕ) (c : List ℕ) (tl : Tail) (got : List ℕ) (st : List Frame) (b : ℕ) (t : Tree)
    → Gives bs t (Left (m.bytes purpose p c tl got) st (b ∷ bs) t) (m.bytes_step purpose p c tl got st b)
bytes_back bs f purpose p c tl got st b t =
    by_cases (Gives bs t (Left (m.bytes purpose p c tl got) st (b ∷ bs) t)) (is_between (low tl) (high tl) b) _ _
    (λ e. bytes_more bs f purpose p c tl got st b t (later tl) refl e) (λ _. nothing bs t _)

-- words
word_back : (bs : List ℕ) → Back bs → (w : m.Word) (st : List Frame) (b : ℕ) (t : Tree) → Gives bs t (Left (m.word w) st (b ∷ bs) t) (m.word_step w st b)
word_back bs f m.so_n st b t = at_byte (Gives bs t (Left (m.word m.so_n) st (b ∷ bs) t)) (λ x. Left (m.word m.so_n) st (x ∷ bs) t) b 117 _ _
    (λ to h. to (let q : Left (m.word m.so_nu) st bs t = f _ st t h in (q.0, ap (λ x. 117 ∷ x) q.1, q.2))) (λ _. nothing bs t _)
word_back bs f m.so_nu st b t = at_byte (Gives bs t (Left (m.word m.so_nu) st (b ∷ bs) t)) (λ x. Left (m.word m.so_nu) st (x ∷ bs) t) b 108 _ _
    (λ to h. to (let q : Left (m.word m.so_nul) st bs t = f _ st t h in (q.0, ap (λ x. 108 ∷ x) q.1, q.2))) (λ _. nothing bs t _)
word_back bs f m.so_nul st b t = at_byte (Gives bs t (Left (m.word m.so_nul) st (b ∷ bs) t))
    (λ x. Left (m.word m.so_nul) st (x ∷ bs) t) b 108 _ _ (λ to h. to (bs, refl, f _ st t h)) (λ _. nothing bs t _)
word_back bs f m.so_t st b t = at_byte (Gives bs t (Left (m.word m.so_t) st (b ∷ bs) t)) (λ x. Left (m.word m.so_t) st (x ∷ bs) t) b 114 _ _
    (λ to h. to (let q : Left (m.word m.so_tr) st bs t = f _ st t h in (q.0, ap (λ x. 114 ∷ x) q.1, q.2))) (λ _. nothing bs t _)
word_back bs f m.so_tr st b t = at_byte (Gives bs t (Left (m.word m.so_tr) st (b ∷ bs) t)) (λ x. Left (m.word m.so_tr) st (x ∷ bs) t) b 117 _ _
    (λ to h. to (let q : Left (m.word m.so_tru) st bs t = f _ st t h in (q.0, ap (λ x. 117 ∷ x) q.1, q.2))) (λ _. nothing bs t _)
word_back bs f m.so_tru st b t = at_byte (Gives bs t (Left (m.word m.so_tru) st (b ∷ bs) t))
    (λ x. Left (m.word m.so_tru) st (x ∷ bs) t) b 101 _ _ (λ to h. to (bs, refl, f _ st t h)) (λ _. nothing bs t _)
word_back bs f m.so_f st b t = at_byte (Gives bs t (Left (m.word m.so_f) st (b ∷ bs) t)) (λ x. Left (m.word m.so_f) st (x ∷ bs) t) b 97 _ _
    (λ to h. to (let q : Left (m.word m.so_fa) st bs t = f _ st t h in (q.0, ap (λ x. 97 ∷ x) q.1, q.2))) (λ _. nothing bs t _)
word_back bs f m.so_fa st b t = at_byte (Gives bs t (Left (m.word m.so_fa) st (b ∷ bs) t)) (λ x. Left (m.word m.so_fa) st (x ∷ bs) t) b 108 _ _
    (λ to h. to (let q : Left (m.word m.so_fal) st bs t = f _ st t h in (q.0, ap (λ x. 108 ∷ x) q.1, q.2))) (λ _. nothing bs t _)
word_back bs f m.so_fal st b t = at_byte (Gives bs t (Left (m.word m.so_fal) st (b ∷ bs) t)) (λ x. Left (m.word m.so_fal) st (x ∷ bs) t) b 115 _ _
    (λ to h. to (let q : Left (m.word m.so_fals) st bs t = f _ st t h in (q.0, ap (λ x. 115 ∷ x) q.1, q.2))) (λ _. nothing bs t _)
word_back bs f m.so_fals st b t = at_byte (Gives bs t (Left (m.word m.so_fals) st (b ∷ bs) t))
    (λ x. Left (m.word m.so_fals) st (x ∷ bs) t) b 101 _ _ (λ to h. to (bs, refl, f _ st t h)) (λ _. nothing bs t _)

-- numbers
abbrev Goes_on : Part → ℕ → List ℕ → Option Part → Type 0
Goes_on part b s None = Unit {0}
Goes_on part b s (Some q) = Completes q s → Completes part (b ∷ s)

whole_digit : (b : ℕ) (s : List ℕ) → is_between 49 57 b ≡ true → Completes m.whole s → Completes m.minus (b ∷ s)
whole_digit b s h (ds, u, e, all, ta) = (b ∷ ds, u, ap (λ x. b ∷ x) e, whole h all, ta)

dot_tail : (s : List ℕ) → Completes m.dot s → Tailed (46 ∷ s)
dot_tail s (ds, e, eq, all, ex) = (46 ∷ ds, e, ap (λ x. 46 ∷ x) eq, fraction all, ex)

letter_tail : (b : ℕ) (s : List ℕ) → is_letter b ≡ true → Signed s → Tailed (b ∷ s)
letter_tail b s h sg = ([], b ∷ s, refl, no_fraction, exponent h sg)

any_digits : (ds : List ℕ) → Digits ds → AllDigits ds
any_digits [] d = tt
any_digits (d ∷ ds) all = all

go_back : (part : Part) (b : ℕ) (s : List ℕ) → Goes_on part b s (go_on part b)
go_back m.minus b s =
    at_byte (Goes_on m.minus b s) (λ x. Unsigned (x ∷ s)) b 48 _ _ (λ to ta. to (48 ∷ [], s, refl, nought, ta))
    (λ _. by_cases (Goes_on m.minus b s) (is_between 49 57 b) _ _ (λ e c. whole_digit b s e c) (λ _. tt))
go_back m.nought b s =
    at_byte (Goes_on m.nought b s) (λ x. Tailed (x ∷ s)) b 46 _ _ (λ to c. to (dot_tail s c))
    (λ _. by_cases (Goes_on m.nought b s) (is_letter b) _ _ (λ e c. letter_tail b s e c) (λ _. tt))
go_back m.whole b s =
    by_cases (Goes_on m.whole b s) (is_digit b) _ _ (λ e c. (b ∷ c.0, c.1, ap (λ x. b ∷ x) c.2, (e, c.3), c.4))
    (λ _. at_byte (Goes_on m.whole b s) (λ x. Completes m.whole (x ∷ s)) b 46 _ _ (λ to c. to ([], 46 ∷ s, refl, tt, dot_tail s c))
    (λ _. by_cases (Goes_on m.whole b s) (is_letter b) _ _ (λ e c. ([], b ∷ s, refl, tt, letter_tail b s e c)) (λ _. tt)))
go_back m.dot b s = by_cases (Goes_on m.dot b s) (is_digit b) _ _ (λ e c. (b ∷ c.0, c.1, ap (λ x. b ∷ x) c.2, (e, c.3), c.4)) (λ _. tt)
go_back m.digits b s =
    by_cases (Goes_on m.digits b s) (is_digit b) _ _ (λ e c. (b ∷ c.0, c.1, ap (λ x. b ∷ x) c.2, (e, c.3), c.4))
    (λ _. by_cases (Goes_on m.digits b s) (is_letter b) _ _ (λ e c. ([], b ∷ s, refl, tt, exponent e c)) (λ _. tt))
go_back m.letter b s =
    by_cases (Goes_on m.letter b s) (is_digit b) _ _ (λ e c. unsigned (e, c))
    (λ _. by_cases (Goes_on m.letter b s) (is_sign b) _ _ (λ e c. signed e c) (λ _. tt))
go_back m.sign b s = by_cases (Goes_on m.sign b s) (is_digit b) _ _ (λ e c. (e, c)) (λ _. tt)
go_back m.power b s = by_cases (Goes_on m.power b s) (is_digit b) _ _ (λ e c. (e, c)) (λ _. tt)

-- a number that may end
done : (part : Part) → may_end part ≡ true → Completes part []
done m.minus e = absurd (cc)
done m.nought e = ([], [], refl, no_fraction, no_exponent)
done m.whole e = ([], [], refl, tt, ([], [], refl, no_fraction, no_exponent))
done m.dot e = absurd (cc)
done m.digits e = ([], [], refl, tt, no_exponent)
done m.letter e = absurd (cc)
done m.sign e = absurd (cc)
done m.power e = tt

number_done : (part : Part) (acc : List ℕ) (st : List Frame) (bs : List ℕ) (t : Tree) → may_end part ≡ true → Closes (num acc) st bs t → Left (m.number part acc) st bs t
number_done part acc st bs t e cl = ([], bs, refl, done part e, subst (λ x. Closes (num x) st bs t) (sym (append-nil acc)) cl)

number_back : (bs : List ℕ) → Back bs → (part : Part) (acc : List ℕ) (st : List Frame) (b : ℕ) (t : Tree) (o : Option Part) → Goes_on part b [] o → ((s : List ℕ) → Goes_on part b s o)
    → Gives bs t (Left (m.number part acc) st (b ∷ bs) t) (m.number_step part acc st b o)
number_back bs f part acc st b t None g all h =
    by_cases (Gives bs t (Left (m.number part acc) st (b ∷ bs) t)) (may_end part) _ _ (λ e h. number_done part acc st (b ∷ bs) t e (after_back bs f (num acc) st b t h)) (λ _. nothing bs t _) h
number_back bs f part acc st b t (Some q) g all h =
    let l : Left (m.number q (acc ++ b ∷ [])) st bs t = f _ st t h in
    (b ∷ l.0, l.1, ap (λ x. b ∷ x) l.2, all l.0 l.3, subst (λ x. Closes (num x) st l.1 t) (append_assoc acc (b ∷ []) l.0) l.4)

-- the end
closed : (v : Tree) (st : List Frame) (t : Tree) → finish (m.after v) st ≡ Some t → Closes v st [] t
closed v [] t h = (no_blank, cc)
closed v (g ∷ st) t h = absurd (cc)

at_end : (m : Mode) (st : List Frame) (t : Tree) → finish m st ≡ Some t → Left m st [] t
at_end m.begin st t h = absurd (cc)
at_end m.mark_two st t h = absurd (cc)
at_end m.mark_one st t h = absurd (cc)
at_end m.value st t h = absurd (cc)
at_end m.first st t h = absurd (cc)
at_end m.first_key st t h = absurd (cc)
at_end (m.key ps) st t h = absurd (cc)
at_end (m.colon ps k) st t h = absurd (cc)
at_end (m.after v) st t h = closed v st t h
at_end (m.text purpose p c) st t h = absurd (cc)
at_end (m.escape purpose p c) st t h = absurd (cc)
at_end (m.hex purpose p c n a) st t h = absurd (cc)
at_end (m.bytes purpose p c tl got) st t h = absurd (cc)
at_end (m.number part acc) [] t h =
    by_cases (λ o. o ≡ Some t → Left (m.number part acc) [] [] t) (may_end part) (Some (num acc)) None (λ e k. number_done part acc [] [] t e (no_blank, cc)) (λ _ k. absurd (cc)) h
at_end (m.number part acc) (g ∷ st) t h = absurd (cc)
at_end (m.word w) st t h = absurd (cc)

-- if the machine reads bytes from a state as the tree t, the grammar finishes with them from that state, and t is the tree
pub back : (bs : List ℕ) → Back bs
unfolding run step
back [] m st t h = at_end m st t h
back (b ∷ bs) m.begin st t h = begin_back bs (back bs) st b t h
back (b ∷ bs) m.mark_two st t h = mark_two_back bs (back bs) st b t h
back (b ∷ bs) m.mark_one st t h = mark_one_back bs (back bs) st b t h
back (b ∷ bs) m.value st t h = value_back bs (back bs) st b t h
back (b ∷ bs) m.first st t h = first_back bs (back bs) st b t h
back (b ∷ bs) m.first_key st t h = first_key_back bs (back bs) st b t h
back (b ∷ bs) (m.key ps) st t h = key_back bs (back bs) ps st b t h
back (b ∷ bs) (m.colon ps k) st t h = colon_back bs (back bs) ps k st b t h
back (b ∷ bs) (m.after v) st t h = after_back bs (back bs) v st b t h
back (b ∷ bs) (m.text purpose p c) st t h = text_back bs (back bs) purpose p c st b t h
back (b ∷ bs) (m.escape purpose p c) st t h = escape_back bs (back bs) purpose p c st b t h
back (b ∷ bs) (m.hex purpose p c n a) st t h = hex_back bs (back bs) purpose p c n a st b t (hex_digit b) refl h
back (b ∷ bs) (m.bytes purpose p c tl got) st t h = bytes_back bs (back bs) purpose p c tl got st b t h
back (b ∷ bs) (m.number part acc) st t h = number_back bs (back bs) part acc st b t (go_on part b) (go_back part b []) (go_back part b) h
back (b ∷ bs) (m.word w) st t h = word_back bs (back bs) w st b t h

begun : (bs : List ℕ) (t : Tree) → Left m.begin [] bs t → Reads bs t
begun bs t (inl (s, bl, (v, r, val, (over, same)))) = subst (Reads bs) same (unmarked (document bl val over))
begun bs t (inr (x, e, (s, bl, (v, r, val, (over, same))))) = subst (λ y. Reads y t) (sym e) (subst (Reads (0xEF ∷ 0xBB ∷ 0xBF ∷ x)) same (marked (document bl val over)))

-- what the machine reads, the grammar reads
pub runs_reads : (bs : List ℕ) (t : Tree) → run bs m.begin [] ≡ Some t → Reads bs t
runs_reads bs t h = begun bs t (back bs m.begin [] t h)
