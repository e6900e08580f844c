-- What may stand behind each state, in the words of the grammar.
use Rattle.std.proofs.Common.{◌≡◌, ℕ, suc, ◌⊎◌, List, [], ◌∷◌, ◌++◌, true, false, Option, Some}
use Rattle.ml_json.specs.Tree.{Tree, null, flag, num, str, list, map, Trees, none, Pairs, no_pairs, put, put_all}
use Rattle.ml_json.proofs.Runs.{snoc_all}
use Rattle.ml_json.specs.Machine.{snoc, Mode, Frame, Part, Purpose}
use Rattle.ml_json.specs.Characters.{Follows}
use Rattle.ml_json.specs.Grammar.{Blank, Value, Rest, Members, MoreMembers}
use Rattle.ml_ratio.specs.JsonNumber.{Unsigned, Tailed, ExponentPart, Signed, Digits, AllDigits}
use Rattle.ml_json.specs.Strings.{Piece, char, unit, Hex, Written, text_of}
use Rattle.ml_json.specs.Machine as m

-- the value v is there: bs closes all that is open, and t is the tree
abbrev pub Closes : Tree → List Frame → List ℕ → Tree → Type 0
Closes v [] bs t = Blank bs [] × (v ≡ t)
Closes v (m.in_list ws ∷ st) bs t = (vs : Trees) × (r : List ℕ) × Rest vs bs r × Closes (list (snoc_all (snoc ws v) vs)) st r t
Closes v (m.at_key ps k ∷ st) bs t = (ms : Pairs) × (r : List ℕ) × MoreMembers ms bs r × Closes (map (put_all (put k v ps) ms)) st r t

-- bs begins with a value, and what follows it closes all that is open
abbrev pub Started : List Frame → List ℕ → Tree → Type 0
Started st bs t = (v : Tree) × (r : List ℕ) × Value v bs r × Closes v st r t

-- the same behind white space
abbrev pub Values : List Frame → List ℕ → Tree → Type 0
Values st bs t = (s : List ℕ) × Blank bs s × Started st s t

-- bs begins with the further members of a map and its closing brace, and what follows closes all that is open around it
abbrev pub Keys : Pairs → List Frame → List ℕ → Tree → Type 0
Keys ps st bs t = (ms : Pairs) × (r : List ℕ) × Members ms bs r × Closes (map (put_all ps ms)) st r t

-- bs begins with the colon behind a key, and the value of the key follows
abbrev pub Colon : Pairs → List ℕ → List Frame → List ℕ → Tree → Type 0
Colon ps k st bs t = (w : List ℕ) × Blank bs (58 ∷ w) × Values (m.at_key ps k ∷ st) w t

-- r goes on behind a string's closing quote, as behind a value or as behind a key
abbrev pub Ended : Purpose → List ℕ → List Frame → List ℕ → Tree → Type 0
Ended m.as_value s st r t = Closes (str s) st r t
Ended (m.as_key ps) s st r t = Colon ps s st r t

-- the bytes make a whole number of the part that has come
abbrev pub Completes : Part → List ℕ → Type 0
Completes m.minus s = Unsigned s
Completes m.nought s = Tailed s
Completes m.whole s = (ds u : List ℕ) × (s ≡ ds ++ u) × AllDigits ds × Tailed u
Completes m.dot s = (ds e : List ℕ) × (s ≡ ds ++ e) × Digits ds × ExponentPart e
Completes m.digits s = (ds e : List ℕ) × (s ≡ ds ++ e) × AllDigits ds × ExponentPart e
Completes m.letter s = Signed s
Completes m.sign s = Digits s
Completes m.power s = AllDigits s

-- bs begins with the further pieces of a string and its closing quote, and goes on behind it
abbrev pub Text : Purpose → Option ℕ → List ℕ → List Frame → List ℕ → Tree → Type 0
Text purpose p c st bs t = (us : List Piece) × (r : List ℕ) × Written us bs r × Ended purpose (c ++ text_of p us) st r t

-- the rest of a word, and its value
abbrev pub rest_of : m.Word → List ℕ
rest_of m.so_n = 117 ∷ 108 ∷ 108 ∷ []
rest_of m.so_nu = 108 ∷ 108 ∷ []
rest_of m.so_nul = 108 ∷ []
rest_of m.so_t = 114 ∷ 117 ∷ 101 ∷ []
rest_of m.so_tr = 117 ∷ 101 ∷ []
rest_of m.so_tru = 101 ∷ []
rest_of m.so_f = 97 ∷ 108 ∷ 115 ∷ 101 ∷ []
rest_of m.so_fa = 108 ∷ 115 ∷ 101 ∷ []
rest_of m.so_fal = 115 ∷ 101 ∷ []
rest_of m.so_fals = 101 ∷ []

-- the value of a word
abbrev pub worth : m.Word → Tree
worth m.so_n = null
worth m.so_nu = null
worth m.so_nul = null
worth m.so_t = flag true
worth m.so_tr = flag true
worth m.so_tru = flag true
worth m.so_f = flag false
worth m.so_fa = flag false
worth m.so_fal = flag false
worth m.so_fals = flag false

-- with bs the grammar finishes from the state, and t is the tree
abbrev pub Left : Mode → List Frame → List ℕ → Tree → Type 0
Left m.begin st bs t = Values st bs t ⊎ ((s : List ℕ) × (bs ≡ 0xEF ∷ 0xBB ∷ 0xBF ∷ s) × Values st s t)
Left m.mark_two st bs t = (s : List ℕ) × (bs ≡ 0xBB ∷ 0xBF ∷ s) × Values st s t
Left m.mark_one st bs t = (s : List ℕ) × (bs ≡ 0xBF ∷ s) × Values st s t
Left m.value st bs t = Values st bs t
Left m.first st bs t = ((r : List ℕ) × Blank bs (93 ∷ r) × Closes (list none) st r t) ⊎ Values (m.in_list none ∷ st) bs t
Left m.first_key st bs t = ((r : List ℕ) × Blank bs (125 ∷ r) × Closes (map no_pairs) st r t) ⊎ Keys no_pairs st bs t
Left (m.key ps) st bs t = Keys ps st bs t
Left (m.colon ps k) st bs t = Colon ps k st bs t
Left (m.after v) st bs t = Closes v st bs t
Left (m.text purpose p c) st bs t = Text purpose p c st bs t
Left (m.escape purpose p c) st bs t = Text purpose p c st (92 ∷ bs) t
Left (m.hex purpose p c n a) st bs t = (u : ℕ) × (us : List Piece) × (s : List ℕ) × (r : List ℕ) × Hex (suc n) a u bs s × Written us s r × Ended purpose (c ++ text_of p (unit u ∷ us)) st r t
Left (m.bytes purpose p c tl got) st bs t = (cs s : List ℕ) × (us : List Piece) × (r : List ℕ) × Follows (Some tl) cs
    × (bs ≡ cs ++ s) × Written us s r × Ended purpose (c ++ text_of p (char (got ++ cs) ∷ us)) st r t
Left (m.number part acc) st bs t = (s r : List ℕ) × (bs ≡ s ++ r) × Completes part s × Closes (num (acc ++ s)) st r t
Left (m.word w) st bs t = (r : List ℕ) × (bs ≡ rest_of w ++ r) × Closes (worth w) st r t
