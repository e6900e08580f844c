-- The grammar of RFC 8259: each relation says that bytes begin with such a thing, and what follows it.
use Rattle.std.specs.Prelude.{◌≡◌, ℕ, List, [], ◌∷◌, ◌++◌, Bool, true, false, ◌==◌, ◌||◌, None}
use Rattle.ml_json.specs.Tree.{Tree, null, flag, num, str, list, map, Trees, none, more, Pairs, no_pairs, pair, put_all}
use Rattle.ml_ratio.specs.JsonNumber.{IsNumber}
use Rattle.ml_json.specs.Strings.{Piece, Written, text_of}

-- white space: space, tab, LF and CR
abbrev pub is_space : ℕ → Bool
is_space b = (b == 32) || ((b == 9) || ((b == 10) || (b == 13)))

-- any white space
pub data Blank : List ℕ → List ℕ → Type 0 where
  no_blank : {r : List ℕ} → Blank r r
  blank : {b : ℕ} {s r : List ℕ} → is_space b ≡ true → Blank s r → Blank (b ∷ s) r

mutual
  -- a value: its tree, the bytes, and what follows
  pub data Value : Tree → List ℕ → List ℕ → Type 0 where
    a_null : {r : List ℕ} → Value null (110 ∷ 117 ∷ 108 ∷ 108 ∷ r) r
    a_true : {r : List ℕ} → Value (flag true) (116 ∷ 114 ∷ 117 ∷ 101 ∷ r) r
    a_false : {r : List ℕ} → Value (flag false) (102 ∷ 97 ∷ 108 ∷ 115 ∷ 101 ∷ r) r
    a_number : {s x r : List ℕ} → IsNumber s → x ≡ s ++ r → Value (num s) x r
    a_string : {us : List Piece} {s r : List ℕ} → Written us s r → Value (str (text_of None us)) (34 ∷ s) r
    empty_list : {s r : List ℕ} → Blank s (93 ∷ r) → Value (list none) (91 ∷ s) r
    a_list : {vs : Trees} {s r : List ℕ} → Items vs s r → Value (list vs) (91 ∷ s) r
    empty_map : {s r : List ℕ} → Blank s (125 ∷ r) → Value (map no_pairs) (123 ∷ s) r
    a_map : {ms : Pairs} {s r : List ℕ} → Members ms s r → Value (map (put_all no_pairs ms)) (123 ∷ s) r

  -- the items of a list that has some, with its closing bracket
  pub data Items : Trees → List ℕ → List ℕ → Type 0 where
    items : {v : Tree} {vs : Trees} {s t u r : List ℕ} → Blank s t → Value v t u → Rest vs u r → Items (more v vs) s r

  -- what follows an item: the end of the list, or a comma and further items
  pub data Rest : Trees → List ℕ → List ℕ → Type 0 where
    close : {s r : List ℕ} → Blank s (93 ∷ r) → Rest none s r
    comma : {vs : Trees} {s t r : List ℕ} → Blank s (44 ∷ t) → Items vs t r → Rest vs s r

  -- the members of a map that has some, with its closing brace
  pub data Members : Pairs → List ℕ → List ℕ → Type 0 where
    members : {us : List Piece} {v : Tree} {ms : Pairs} {s t u w x y r : List ℕ} → Blank s (34 ∷ t) → Written us t u → Blank u (58 ∷ w) → Blank w x → Value v x y → MoreMembers ms y r
        → Members (pair (text_of None us) v ms) s r

  -- what follows a member: the end of the map, or a comma and further members
  pub data MoreMembers : Pairs → List ℕ → List ℕ → Type 0 where
    close_map : {s r : List ℕ} → Blank s (125 ∷ r) → MoreMembers no_pairs s r
    comma_map : {ms : Pairs} {s t r : List ℕ} → Blank s (44 ∷ t) → Members ms t r → MoreMembers ms s r

-- a value with white space around it, and nothing behind
pub data Document : Tree → List ℕ → Type 0 where
  document : {v : Tree} {s t u : List ℕ} → Blank s t → Value v t u → Blank u [] → Document v s

-- the bytes are a text of the tree; the three bytes EF BB BF may stand before it
pub data Reads : List ℕ → Tree → Type 0 where
  unmarked : {v : Tree} {s : List ℕ} → Document v s → Reads s v
  marked : {v : Tree} {s : List ℕ} → Document v s → Reads (0xEF ∷ 0xBB ∷ 0xBF ∷ s) v

-- a good text: one that some tree reads
abbrev pub IsGood : List ℕ → Type 0
IsGood bytes = (v : Tree) × Reads bytes v

-- some good text begins with the bytes
abbrev pub IsPrefix : List ℕ → Type 0
IsPrefix bytes = (rest : List ℕ) × IsGood (bytes ++ rest)
