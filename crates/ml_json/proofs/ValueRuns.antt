-- The values of the grammar, read by the machine.
use Rattle.std.proofs.Common.{◌≡◌, ℕ, inl, inr, List, [], ◌∷◌, ◌++◌, true, false, ◌==◌, Some, None, refl, sym, ◌∙◌, ap, subst, arith, append_assoc}
use Rattle.std.proofs.lemmas.Bool.Decides.{nat_tests, eqb_tells}
use Rattle.ml_json.specs.Tree.{Tree, list, map, Trees, none, more, Pairs, no_pairs, put, put_all}
use Rattle.ml_json.proofs.Runs.{snoc_all, run}
use Rattle.ml_json.specs.Machine.{snoc, Mode, Frame, State, step, finish, Purpose}
use Rattle.ml_json.specs.Grammar.{is_space, Blank, no_blank, blank, Value, a_null, a_true, a_false, a_number, a_string, empty_list, a_list, empty_map, a_map, Items}
use Rattle.ml_json.specs.Grammar.{items, Rest, close, comma, Members, members, MoreMembers, close_map, comma_map, Document, document, Reads, unmarked, marked}
use Rattle.ml_ratio.specs.JsonNumber.{is_between, minus_number, plain_number, IsNumber, whole, nought, Whole}
use Rattle.ml_json.specs.Strings.{text_of}
use Rattle.ml_json.specs.Machine as m
use Rattle.ml_json.proofs.TokenRuns.{Ends, ends, run_blank, space_value, space_first, space_first_key, space_key, space_colon, space_after, number_runs}
use Rattle.ml_json.proofs.StringRuns.{written_runs}

-- appending one by one appends
abbrev joined : Trees → Trees → Trees
joined none ws = ws
joined (more v vs) ws = more v (joined vs ws)

joined_none : (vs : Trees) → joined vs none ≡ vs
joined_none none = refl
joined_none (more v vs) = ap (more v) (joined_none vs)

joined_snoc : (vs : Trees) (w : Tree) (ws : Trees) → joined (snoc vs w) ws ≡ joined vs (more w ws)
joined_snoc none w ws = refl
joined_snoc (more v vs) w ws = ap (more v) (joined_snoc vs w ws)

snoc_all-joined : (vs ws : Trees) → snoc_all vs ws ≡ joined vs ws
snoc_all-joined vs none = sym (joined_none vs)
snoc_all-joined vs (more w ws) = snoc_all-joined (snoc vs w) ws ∙ joined_snoc vs w ws

-- trees that are put behind none are these trees
pub snoc_all-none : (ws : Trees) → snoc_all none ws ≡ ws
snoc_all-none ws = snoc_all-joined none ws

-- trees that are put behind one stand behind it
pub snoc_all-one : (v : Tree) (ws : Trees) → snoc_all (more v none) ws ≡ more v ws
snoc_all-one v ws = snoc_all-joined (more v none) ws

space_ends : (b : ℕ) → is_space b ≡ true → ends b ≡ true
space_ends b h = rw h refl

blank_ends : {s r : List ℕ} → Blank s r → Ends r → Ends s
blank_ends no_blank x = x
blank_ends (blank {b} h bl) x = space_ends b h

rest_ends : {vs : Trees} {s r : List ℕ} → Rest vs s r → Ends s
rest_ends (close bl) = blank_ends bl refl
rest_ends (comma bl is) = blank_ends bl refl

more_ends : {ms : Pairs} {s r : List ℕ} → MoreMembers ms s r → Ends s
more_ends (close_map bl) = blank_ends bl refl
more_ends (comma_map bl is) = blank_ends bl refl

-- how a value begins
abbrev Opens : List ℕ → Type 0
Opens [] = ⊥
Opens (b ∷ bs) = (is_space b ≡ false) × ((b == 93) ≡ false)

digit_opens : (d : ℕ) → is_between 49 57 d ≡ true → (is_space d ≡ false) × ((d == 93) ≡ false)
digit_opens d h = (grind (arith, nat_tests), grind (arith, nat_tests))

whole_opens : {w : List ℕ} (x : List ℕ) → Whole w → Opens (w ++ x)
whole_opens x nought = (refl, refl)
whole_opens x (whole {d} h all) = digit_opens d h

number_opens : {s : List ℕ} (r : List ℕ) → IsNumber s → Opens (s ++ r)
number_opens r (plain_number (w, t, eq, wh, ta)) = subst Opens (sym (ap (λ s. s ++ r) eq ∙ append_assoc w t r)) (whole_opens (t ++ r) wh)
number_opens r (minus_number u) = (refl, refl)

value_opens : {v : Tree} {s r : List ℕ} → Value v s r → Opens s
value_opens a_null = (refl, refl)
value_opens a_true = (refl, refl)
value_opens a_false = (refl, refl)
value_opens {r = r} (a_number h e) = subst Opens (sym e) (number_opens r h)
value_opens (a_string w) = (refl, refl)
value_opens (empty_list bl) = (refl, refl)
value_opens (a_list i) = (refl, refl)
value_opens (empty_map bl) = (refl, refl)
value_opens (a_map ms) = (refl, refl)

first_same : (st : List Frame) (s : List ℕ) → Opens s → run s m.first st ≡ run s m.value (m.in_list none ∷ st)
unfolding run step
first_same st [] o = absurd o
first_same st (b ∷ bs) o = rw (o.0, o.1) refl

-- an opened list goes on with its first item as after a comma
no_bracket : (st : List Frame) {vs : Trees} {s r : List ℕ} → Items vs s r → run s m.first st ≡ run s m.value (m.in_list none ∷ st)
no_bracket st (items {t = t} bl val rest) =
    run_blank m.first st (space_first st) bl ∙ first_same st t (value_opens val) ∙ sym (run_blank m.value (m.in_list none ∷ st) (space_value (m.in_list none ∷ st)) bl)

no_brace : (st : List Frame) {ms : Pairs} {s r : List ℕ} → Members ms s r → run s m.first_key st ≡ run s (m.key no_pairs) st
unfolding run step
no_brace st (members bl w before behind val rest) = run_blank m.first_key st (space_first_key st) bl ∙ sym (run_blank (m.key no_pairs) st (space_key no_pairs st) bl)

mutual
  unfolding run step

  -- the machine goes over a value to the state behind it
  pub value_runs : (st : List Frame) {v : Tree} {s r : List ℕ} → Value v s r → Ends r → run s m.value st ≡ run r (m.after v) st
  value_runs st a_null x = refl
  value_runs st a_true x = refl
  value_runs st a_false x = refl
  value_runs st {r = r} (a_number {s} h e) x = ap (λ y. run y m.value st) e ∙ number_runs st r h x
  value_runs st (a_string w) x = written_runs m.as_value st w None []
  value_runs st (empty_list bl) x = run_blank m.first st (space_first st) bl
  value_runs st {r = r} (a_list {vs} i) x = no_bracket st i ∙ items_runs none st i ∙ ap (λ y. run r (m.after (list y)) st) (snoc_all-none vs)
  value_runs st (empty_map bl) x = run_blank m.first_key st (space_first_key st) bl
  value_runs st (a_map ms) x = no_brace st ms ∙ members_runs no_pairs st ms

  -- it goes over the further items of a list and its bracket to the state behind the list
  pub items_runs : (ws : Trees) (st : List Frame) {vs : Trees} {s r : List ℕ} → Items vs s r → run s m.value (m.in_list ws ∷ st) ≡ run r (m.after (list (snoc_all ws vs))) st
  items_runs ws st (items {v} bl val rest) = run_blank m.value (m.in_list ws ∷ st) (space_value (m.in_list ws ∷ st)) bl ∙ value_runs (m.in_list ws ∷ st) val (rest_ends rest) ∙ rest_runs ws v st rest

  -- so it does from behind an item, which joins the items so far
  pub rest_runs : (ws : Trees) (v : Tree) (st : List Frame) {vs : Trees} {s r : List ℕ} → Rest vs s r → run s (m.after v) (m.in_list ws ∷ st) ≡ run r (m.after (list (snoc_all (snoc ws v) vs))) st
  rest_runs ws v st (close bl) = run_blank (m.after v) (m.in_list ws ∷ st) (space_after v (m.in_list ws ∷ st)) bl
  rest_runs ws v st (comma bl i) = run_blank (m.after v) (m.in_list ws ∷ st) (space_after v (m.in_list ws ∷ st)) bl ∙ items_runs (snoc ws v) st i

  -- it goes over the further members of a map and its brace to the state behind the map
  pub members_runs : (ps : Pairs) (st : List Frame) {ms : Pairs} {s r : List ℕ} → Members ms s r → run s (m.key ps) st ≡ run r (m.after (map (put_all ps ms))) st
  members_runs ps st (members {us} {v} bl w before behind val rest) =
      run_blank (m.key ps) st (space_key ps st) bl ∙ written_runs (m.as_key ps) st w None [] ∙ run_blank (m.colon ps (text_of None us)) st (space_colon ps (text_of None us) st) before
      ∙ run_blank m.value (m.at_key ps (text_of None us) ∷ st) (space_value (m.at_key ps (text_of None us) ∷ st)) behind ∙ value_runs (m.at_key ps (text_of None us) ∷ st) val (more_ends rest)
      ∙ more_runs ps (text_of None us) v st rest

  -- so it does from behind a member's value, which is put at its key
  pub more_runs : (ps : Pairs) (k : List ℕ) (v : Tree) (st : List Frame) {ms : Pairs} {s r : List ℕ} →
      MoreMembers ms s r → run s (m.after v) (m.at_key ps k ∷ st) ≡ run r (m.after (map (put_all (put k v ps) ms))) st
  more_runs ps k v st (close_map bl) = run_blank (m.after v) (m.at_key ps k ∷ st) (space_after v (m.at_key ps k ∷ st)) bl
  more_runs ps k v st (comma_map bl ms) = run_blank (m.after v) (m.at_key ps k ∷ st) (space_after v (m.at_key ps k ∷ st)) bl ∙ members_runs (put k v ps) st ms

no_mark : (bs : List ℕ) (t : Tree) → run (0xEF ∷ bs) m.value [] ≡ Some t → ⊥
unfolding run step
no_mark bs t h = absurd (cc)

-- the mark is passed over
begin_value : (s : List ℕ) (t : Tree) → run s m.value [] ≡ Some t → run s m.begin [] ≡ Some t
unfolding run step
begin_value [] t h = h
begin_value (b ∷ bs) t h = elim (eqb_tells b 0xEF) [
  | inl same ↦ absurd (no_mark bs t (subst (λ x. run (x ∷ bs) m.value [] ≡ Some t) same.1 h))
  | inr other ↦ rw other.0 h
]

document_runs : {v : Tree} {s : List ℕ} → Document v s → run s m.value [] ≡ Some v
unfolding run step
document_runs (document {v} bl val end) = run_blank m.value [] (space_value []) bl ∙ value_runs [] val (blank_ends end tt) ∙ run_blank (m.after v) [] (space_after v []) end

-- what the grammar reads, the machine reads
pub reads_runs : {v : Tree} {s : List ℕ} → Reads s v → run s m.begin [] ≡ Some v
unfolding run step
reads_runs {v} (unmarked {s = s} d) = begin_value s v (document_runs d)
reads_runs (marked d) = document_runs d

-- so a text has one tree
pub one_tree : (s : List ℕ) (v w : Tree) → Reads s v → Reads s w → v ≡ w
one_tree s v w r q = let a = reads_runs r in let b = reads_runs q in cc
