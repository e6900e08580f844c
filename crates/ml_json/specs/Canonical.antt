-- The canonical text of a tree: no white space, strings with as few escapes as can be, numbers as their texts.
use Rattle.std.specs.Prelude.{◌≡◌, ℕ, ◌+◌, ◌/◌, ◌%◌, ◌≤◌, List, [], ◌∷◌, ◌++◌, true, false, nat_lt, ◌==◌, max, if◌then◌else◌}
use Rattle.std.specs.Ordering.{nat_cmp}
use Rattle.std.specs.Cmp.Lexicographic.{slice_cmp}
use Rattle.std.specs.Str.{IsUtf8}
use Rattle.std.specs.declared.cmp.Ordering.TheVariants.{Less}
use Rattle.ml_json.specs.Tree.{Tree, null, flag, num, str, list, map, Trees, none, more, Pairs, no_pairs, pair, put_all}
use Rattle.ml_ratio.specs.JsonNumber.{IsNumber}

-- a hexadecimal digit, in lower case
abbrev pub hex_byte : ℕ → ℕ
hex_byte d = if nat_lt d 10 then 48 + d else (87 + d)

-- a byte of a string as it is written, and what follows
abbrev pub byte_on : ℕ → List ℕ → List ℕ
byte_on b r =
    if b == 34 then 92 ∷ 34 ∷ r
    else (if b == 92 then 92 ∷ 92 ∷ r
    else (if b == 8 then 92 ∷ 98 ∷ r
    else (if b == 9 then 92 ∷ 116 ∷ r
    else (if b == 10 then 92 ∷ 110 ∷ r
    else (if b == 12 then 92 ∷ 102 ∷ r
    else (if b == 13 then 92 ∷ 114 ∷ r
    else (if nat_lt b 32 then 92 ∷ 117 ∷ 48 ∷ 48 ∷ hex_byte (b / 16) ∷ hex_byte (b % 16) ∷ r else (b ∷ r))))))))

-- a string's bytes as they are written, and what follows
abbrev pub bytes_on : List ℕ → List ℕ → List ℕ
bytes_on [] r = r
bytes_on (b ∷ s) r = byte_on b (bytes_on s r)

-- a string between quotes, and what follows
abbrev pub string_on : List ℕ → List ℕ → List ℕ
string_on s r = 34 ∷ bytes_on s (34 ∷ r)

abbrev mutual
  -- a tree's text, and what follows
  pub tree_on : Tree → List ℕ → List ℕ
  tree_on null r = 110 ∷ 117 ∷ 108 ∷ 108 ∷ r
  tree_on (flag true) r = 116 ∷ 114 ∷ 117 ∷ 101 ∷ r
  tree_on (flag false) r = 102 ∷ 97 ∷ 108 ∷ 115 ∷ 101 ∷ r
  tree_on (num s) r = s ++ r
  tree_on (str s) r = string_on s r
  tree_on (list vs) r = 91 ∷ items_on vs r
  tree_on (map ps) r = 123 ∷ members_on ps r

  -- the items of a list with commas between them, its bracket, and what follows
  pub items_on : Trees → List ℕ → List ℕ
  items_on none r = 93 ∷ r
  items_on (more v vs) r = tree_on v (rest_on vs r)

  -- the same behind an item
  pub rest_on : Trees → List ℕ → List ℕ
  rest_on none r = 93 ∷ r
  rest_on (more v vs) r = 44 ∷ tree_on v (rest_on vs r)

  -- the members of a map with commas between them, its brace, and what follows
  pub members_on : Pairs → List ℕ → List ℕ
  members_on no_pairs r = 125 ∷ r
  members_on (pair k v ps) r = string_on k (58 ∷ tree_on v (more_on ps r))

  -- the same behind a member
  pub more_on : Pairs → List ℕ → List ℕ
  more_on no_pairs r = 125 ∷ r
  more_on (pair k v ps) r = 44 ∷ string_on k (58 ∷ tree_on v (more_on ps r))

-- the canonical text of a tree
abbrev pub canonical : Tree → List ℕ
canonical v = tree_on v []

abbrev mutual
  -- how many lists and maps of a tree lie within one another
  pub nesting : Tree → ℕ
  nesting null = 0
  nesting (flag b) = 0
  nesting (num s) = 0
  nesting (str s) = 0
  nesting (list vs) = items_nesting vs + 1
  nesting (map ps) = pairs_nesting ps + 1

  -- the most of any item
  pub items_nesting : Trees → ℕ
  items_nesting none = 0
  items_nesting (more v vs) = max (nesting v) (items_nesting vs)

  -- the most of any member
  pub pairs_nesting : Pairs → ℕ
  pairs_nesting no_pairs = 0
  pairs_nesting (pair k v ps) = max (nesting v) (pairs_nesting ps)

-- keys in byte order, each once
abbrev pub IsAscending : Pairs → Type 0
IsAscending no_pairs = Unit {0}
IsAscending (pair k v no_pairs) = Unit {0}
IsAscending (pair k v (pair l w ps)) = (slice_cmp nat_cmp k l ≡ Less) × IsAscending (pair l w ps)

abbrev mutual
  -- every number is the text of one, and every map has its keys in byte order, each once
  pub IsOrderly : Tree → Type 0
  IsOrderly null = Unit {0}
  IsOrderly (flag b) = Unit {0}
  IsOrderly (num s) = IsNumber s
  IsOrderly (str s) = Unit {0}
  IsOrderly (list vs) = AllOrderly vs
  IsOrderly (map ps) = IsAscending ps × AllPairsOrderly ps

  -- of every item
  pub AllOrderly : Trees → Type 0
  AllOrderly none = Unit {0}
  AllOrderly (more v vs) = IsOrderly v × AllOrderly vs

  -- of every member
  pub AllPairsOrderly : Pairs → Type 0
  AllPairsOrderly no_pairs = Unit {0}
  AllPairsOrderly (pair k v ps) = IsOrderly v × AllPairsOrderly ps

abbrev mutual
  -- every number is the text of one
  pub HasNumbers : Tree → Type 0
  HasNumbers null = Unit {0}
  HasNumbers (flag b) = Unit {0}
  HasNumbers (num s) = IsNumber s
  HasNumbers (str s) = Unit {0}
  HasNumbers (list vs) = AllHaveNumbers vs
  HasNumbers (map ps) = AllPairsHaveNumbers ps

  -- of every item
  pub AllHaveNumbers : Trees → Type 0
  AllHaveNumbers none = Unit {0}
  AllHaveNumbers (more v vs) = HasNumbers v × AllHaveNumbers vs

  -- of every member
  pub AllPairsHaveNumbers : Pairs → Type 0
  AllPairsHaveNumbers no_pairs = Unit {0}
  AllPairsHaveNumbers (pair k v ps) = HasNumbers v × AllPairsHaveNumbers ps

-- a tree whose text is JSON: its numbers are numbers, and its depth is at most 64
pub record IsPrintable (tree : Tree) : Type 0 where
  pub numbers : HasNumbers tree
  pub shallow : nesting tree ≤ 64

abbrev mutual
  -- a tree as its text is read: the members of each map put in one after another
  pub settled : Tree → Tree
  settled null = null
  settled (flag b) = flag b
  settled (num s) = num s
  settled (str s) = str s
  settled (list vs) = list (items_settled vs)
  settled (map ps) = map (put_all no_pairs (members_settled ps))

  -- each item
  pub items_settled : Trees → Trees
  items_settled none = none
  items_settled (more v vs) = more (settled v) (items_settled vs)

  -- each member
  pub members_settled : Pairs → Pairs
  members_settled no_pairs = no_pairs
  members_settled (pair k v ps) = pair k (settled v) (members_settled ps)

-- a tree that can be written: orderly, and of depth at most 64
pub record IsWritable (tree : Tree) : Type 0 where
  pub orderly : IsOrderly tree
  pub shallow : nesting tree ≤ 64

abbrev mutual
  -- every string and key is text in UTF-8
  pub HasUtf8 : Tree → Type 0
  HasUtf8 null = Unit {0}
  HasUtf8 (flag b) = Unit {0}
  HasUtf8 (num s) = Unit {0}
  HasUtf8 (str s) = IsUtf8 s
  HasUtf8 (list vs) = AllHaveUtf8 vs
  HasUtf8 (map ps) = AllPairsHaveUtf8 ps

  -- of every item
  pub AllHaveUtf8 : Trees → Type 0
  AllHaveUtf8 none = Unit {0}
  AllHaveUtf8 (more v vs) = HasUtf8 v × AllHaveUtf8 vs

  -- of every member
  pub AllPairsHaveUtf8 : Pairs → Type 0
  AllPairsHaveUtf8 no_pairs = Unit {0}
  AllPairsHaveUtf8 (pair k v ps) = IsUtf8 k × HasUtf8 v × AllPairsHaveUtf8 ps
