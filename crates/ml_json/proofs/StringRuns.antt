-- The strings of the grammar, read by the machine.
use Rattle.std.proofs.Common.{◌≡◌, ℕ, ◌≤◌, List, [], ◌∷◌, ◌++◌, Bool, true, false, cond, nat_lt, ◌==◌, Option, Some, None, refl, sym, ◌∙◌, ap, arith, append_assoc, append-nil}
use Rattle.std.proofs.lemmas.Bool.Decides.{nat_tests}
use Rattle.ml_json.specs.Characters.{Tail, lead, Follows, end, next}
use Rattle.ml_json.specs.Strings.{escaped, is_high, is_low, replacement, single, both, lone, is_plain, Piece, unit, Hex, no_hex, hex, Written, quote, plain, longer, short, code, text_of}
use Rattle.ml_json.specs.Machine as m
use Rattle.ml_json.specs.Machine.{Mode, Frame, State, step, finish, Purpose, ended, add_unit, add_char, hex_to, bytes_to}
use Rattle.ml_json.proofs.Runs.{run, goes}

bytes_runs : (purpose : Purpose) (p : Option ℕ) (c : List ℕ) (st : List Frame) (s : List ℕ) {o : Option Tail} {bs : List ℕ} (got : List ℕ) → Follows o bs
    → run (bs ++ s) (bytes_to purpose p c o got) st ≡ run s (m.text purpose None (add_char p c (got ++ bs))) st
unfolding run step
bytes_runs purpose p c st s got end = ap (λ x. run s (m.text purpose None (add_char p c x)) st) (sym (append-nil got))
bytes_runs purpose p c st s got (next {t} {b} {bs} h f) =
    rw h (bytes_runs purpose p c st s (got ++ b ∷ []) f ∙ ap (λ x. run s (m.text purpose None (add_char p c x)) st) (append_assoc got (b ∷ []) bs))

hex_runs : (purpose : Purpose) (p : Option ℕ) (c : List ℕ) (st : List Frame) {n a u : ℕ} {x s : List ℕ} → Hex n a u x s → run x (hex_to purpose p c n a) st ≡ run s (add_unit purpose p c u) st
unfolding run step
hex_runs purpose p c st no_hex = refl
hex_runs purpose p c st (hex h d) = rw h (hex_runs purpose p c st d)

pick : (purpose : Purpose) (c : List ℕ) (st : List Frame) (s r : List ℕ) (b : Bool) (M N : Mode) (X Y : List ℕ)
    → run s M st ≡ run r (ended purpose (c ++ X)) st → run s N st ≡ run r (ended purpose (c ++ Y)) st → run s (cond b M N) st ≡ run r (ended purpose (c ++ cond b X Y)) st
pick purpose c st s r true M N X Y h k = h
pick purpose c st s r false M N X Y h k = k

unit_runs : (purpose : Purpose) (p : Option ℕ) (c : List ℕ) (st : List Frame) (s r : List ℕ) (us : List Piece) (u : ℕ)
    → ((p : Option ℕ) (c : List ℕ) → run s (m.text purpose p c) st ≡ run r (ended purpose (c ++ text_of p us)) st)
    → run s (add_unit purpose p c u) st ≡ run r (ended purpose (c ++ text_of p (unit u ∷ us))) st
unit_runs purpose None c st s r us u f =
    pick purpose c st s r (is_high u) _ _ _ _ (f (Some u) c) (f None (c ++ single u) ∙ ap (λ x. run r (ended purpose x) st) (append_assoc c (single u) (text_of None us)))
unit_runs purpose (Some h) c st s r us u f =
    pick purpose c st s r (is_high u) _ _ _ _ (f (Some u) (c ++ replacement) ∙ ap (λ x. run r (ended purpose x) st) (append_assoc c replacement (text_of (Some u) us)))
    (pick purpose c st s r (is_low u) _ _ _ _ (f None (c ++ both h u) ∙ ap (λ x. run r (ended purpose x) st) (append_assoc c (both h u) (text_of None us)))
    (f None (c ++ (replacement ++ single u)) ∙ ap (λ x. run r (ended purpose x) st) (append_assoc c (replacement ++ single u) (text_of None us))))

-- the first byte of a character of more than one is at least 194
pub lead_large : (a : ℕ) (t : Tail) → lead a ≡ Some t → 194 ≤ a
lead_large a t h = grind (arith, nat_tests)

-- what stands behind a text with a character more stands behind the text, the half that was held and the character
pub char_joined : (p : Option ℕ) (c bs x : List ℕ) → add_char p c bs ++ x ≡ c ++ (lone p ++ (bs ++ x))
char_joined p c bs x = simp append_assoc

-- a plain byte in a string is a character more of its text
pub text_plain : (purpose : Purpose) (p : Option ℕ) (c : List ℕ) (st : List Frame) (b : ℕ) → is_plain b ≡ true → m.text_step purpose p c st b ≡ Some (m.text purpose None (add_char p c (b ∷ [])), st)
text_plain purpose p c st b h =
    let a : (b == 34) ≡ false = grind (arith, nat_tests) in
    let e : (b == 92) ≡ false = grind (arith, nat_tests) in
    let f : nat_lt b 32 ≡ false = grind (arith, nat_tests) in
    let g : nat_lt b 128 ≡ true = grind (arith, nat_tests) in
    rw (a, e, f, g) refl

text_lead : (purpose : Purpose) (p : Option ℕ) (c : List ℕ) (st : List Frame) (b : ℕ) (t : Tail) → lead b ≡ Some t → m.text_step purpose p c st b ≡ Some (m.bytes purpose p c t (b ∷ []), st)
text_lead purpose p c st b t h =
    let large = lead_large b t h in
    let a : (b == 34) ≡ false = grind (arith, nat_tests) in
    let e : (b == 92) ≡ false = grind (arith, nat_tests) in
    let f : nat_lt b 32 ≡ false = grind (arith, nat_tests) in
    let g : nat_lt b 128 ≡ false = grind (arith, nat_tests) in
    rw (a, e, f, g, h) refl

not_code : (e b : ℕ) → escaped e ≡ Some b → (e == 117) ≡ false
not_code e b h = grind (arith, nat_tests)

-- the machine goes over the further pieces of a string and its closing quote, and adds their text to the string's
pub written_runs : (purpose : Purpose) (st : List Frame) {us : List Piece} {s r : List ℕ} → Written us s r →
    (p : Option ℕ) (c : List ℕ) → run s (m.text purpose p c) st ≡ run r (ended purpose (c ++ text_of p us)) st
unfolding run step
written_runs purpose st quote p c = refl
written_runs purpose st {r = r} (plain {b} {us} {s} h w) p c =
    ap (goes (run s)) (text_plain purpose p c st b h) ∙ written_runs purpose st w None (add_char p c (b ∷ [])) ∙ ap (λ x. run r (ended purpose x) st) (char_joined p c (b ∷ []) (text_of None us))
written_runs purpose st {r = r} (longer {a} {t} {bs} {us} {s} {x} h f e w) p c =
    ap (goes (run x)) (text_lead purpose p c st a t h) ∙ ap (λ y. run y (m.bytes purpose p c t (a ∷ [])) st) e ∙ bytes_runs purpose p c st s (a ∷ []) f
    ∙ written_runs purpose st w None (add_char p c (a ∷ bs)) ∙ ap (λ x. run r (ended purpose x) st) (char_joined p c (a ∷ bs) (text_of None us))
written_runs purpose st {r = r} (short {e} {b} {us} {s} h w) p c =
    rw (not_code e b h, h) (written_runs purpose st w None (add_char p c (b ∷ [])) ∙ ap (λ x. run r (ended purpose x) st) (char_joined p c (b ∷ []) (text_of None us)))
written_runs purpose st {r = r} (code {u} {us} {x} {s} h w) p c =
    hex_runs purpose p c st h ∙ unit_runs purpose p c st s r us u (written_runs purpose st w)
