-- The canonical text of a tree reads back to it, with its maps in order.
use Rattle.std.proofs.Common.{◌≡◌, ℕ, List, [], ◌∷◌, true, false, refl, ◌∙◌, ap, subst}
use Rattle.std.specs.Str.{IsUtf8}
use Rattle.ml_json.specs.Tree.{Tree, null, flag, num, str, list, map, Trees, none, more, Pairs, no_pairs, pair, put_all}
use Rattle.ml_ratio.specs.JsonNumber.{IsNumber}
use Rattle.ml_json.specs.Grammar.{no_blank, Value, a_null, a_true, a_false, a_number, a_string, empty_list, a_list, empty_map, a_map}
use Rattle.ml_json.specs.Grammar.{items, Rest, close, comma, members, MoreMembers, close_map, comma_map, document, Reads, unmarked}
use Rattle.ml_json.specs.Canonical.{string_on, tree_on, items_on, rest_on, members_on, more_on, IsOrderly, AllOrderly, AllPairsOrderly, HasNumbers}
use Rattle.ml_json.specs.Canonical.{AllHaveNumbers, AllPairsHaveNumbers, settled, items_settled, members_settled, HasUtf8, AllHaveUtf8, AllPairsHaveUtf8}
use Rattle.ml_json.proofs.CanonicalStrings.{string_reads}
use Rattle.ml_json.proofs.SortedPairs.{ascending_stays}

abbrev mutual
  -- numbers are numbers, and strings are text
  pub Good : Tree → Type 0
  Good null = Unit {0}
  Good (flag b) = Unit {0}
  Good (num s) = IsNumber s
  Good (str s) = IsUtf8 s
  Good (list vs) = AllGood vs
  Good (map ps) = AllGoodPairs ps

  -- the same of every item
  pub AllGood : Trees → Type 0
  AllGood none = Unit {0}
  AllGood (more v vs) = Good v × AllGood vs

  -- the same of every member, whose key is text too
  pub AllGoodPairs : Pairs → Type 0
  AllGoodPairs no_pairs = Unit {0}
  AllGoodPairs (pair k v ps) = IsUtf8 k × Good v × AllGoodPairs ps

mutual
  -- a tree is good if its numbers are numbers and its strings and keys are UTF-8
  pub good : (v : Tree) → HasNumbers v → HasUtf8 v → Good v
  good null h u = tt
  good (flag b) h u = tt
  good (num s) h u = h
  good (str s) h u = u
  good (list vs) h u = all_good vs h u
  good (map ps) h u = all_pairs_good ps h u

  all_good : (vs : Trees) → AllHaveNumbers vs → AllHaveUtf8 vs → AllGood vs
  all_good none h u = tt
  all_good (more v vs) h u = (good v h.0 u.0, all_good vs h.1 u.1)

  all_pairs_good : (ps : Pairs) → AllPairsHaveNumbers ps → AllPairsHaveUtf8 ps → AllGoodPairs ps
  all_pairs_good no_pairs h u = tt
  all_pairs_good (pair k v ps) h u = (u.0, good v h.0 u.1, all_pairs_good ps h.1 u.2)

mutual
  -- an orderly tree has numbers
  pub orderly_numbers : (v : Tree) → IsOrderly v → HasNumbers v
  orderly_numbers null h = tt
  orderly_numbers (flag b) h = tt
  orderly_numbers (num s) h = h
  orderly_numbers (str s) h = tt
  orderly_numbers (list vs) h = all_numbers vs h
  orderly_numbers (map ps) h = all_pairs_numbers ps h.1

  all_numbers : (vs : Trees) → AllOrderly vs → AllHaveNumbers vs
  all_numbers none h = tt
  all_numbers (more v vs) h = (orderly_numbers v h.0, all_numbers vs h.1)

  all_pairs_numbers : (ps : Pairs) → AllPairsOrderly ps → AllPairsHaveNumbers ps
  all_pairs_numbers no_pairs h = tt
  all_pairs_numbers (pair k v ps) h = (orderly_numbers v h.0, all_pairs_numbers ps h.1)

mutual
  -- an orderly tree is read as it stands
  pub orderly_settled : (v : Tree) → IsOrderly v → settled v ≡ v
  orderly_settled null h = refl
  orderly_settled (flag b) h = refl
  orderly_settled (num s) h = refl
  orderly_settled (str s) h = refl
  orderly_settled (list vs) h = ap list (items_stay vs h)
  orderly_settled (map ps) h = ap map (ap (put_all no_pairs) (members_stay ps h.1) ∙ ascending_stays ps h.0)

  items_stay : (vs : Trees) → AllOrderly vs → items_settled vs ≡ vs
  items_stay none h = refl
  items_stay (more v vs) h = ap (λ w. more w (items_settled vs)) (orderly_settled v h.0) ∙ ap (more v) (items_stay vs h.1)

  members_stay : (ps : Pairs) → AllPairsOrderly ps → members_settled ps ≡ ps
  members_stay no_pairs h = refl
  members_stay (pair k v ps) h = ap (λ w. pair k w (members_settled ps)) (orderly_settled v h.0) ∙ ap (pair k v) (members_stay ps h.1)

mutual
  -- the grammar reads a good tree's canonical text as the settled tree, and leaves what follows
  pub value_spelled : (v : Tree) (r : List ℕ) → Good v → Value (settled v) (tree_on v r) r
  value_spelled null r h = a_null
  value_spelled (flag true) r h = a_true
  value_spelled (flag false) r h = a_false
  value_spelled (num s) r h = a_number h refl
  value_spelled (str s) r h = let w = string_reads s r h in subst (λ x. Value (str x) (string_on s r) r) w.2 (a_string w.1)
  value_spelled (list vs) r h = list_spelled vs r h
  value_spelled (map ps) r h = map_spelled ps r h

  -- it reads a list so from the opening bracket on
  pub list_spelled : (vs : Trees) (r : List ℕ) → AllGood vs → Value (list (items_settled vs)) (91 ∷ items_on vs r) r
  list_spelled none r h = empty_list no_blank
  list_spelled (more v vs) r h = a_list (items no_blank (value_spelled v (rest_on vs r) h.0) (rest_spelled vs r h.1))

  -- what stands behind an item it reads as the further items, each settled
  pub rest_spelled : (vs : Trees) (r : List ℕ) → AllGood vs → Rest (items_settled vs) (rest_on vs r) r
  rest_spelled none r h = close no_blank
  rest_spelled (more v vs) r h = comma no_blank (items no_blank (value_spelled v (rest_on vs r) h.0) (rest_spelled vs r h.1))

  -- a map it reads from the opening brace on, with the settled members put in one after another
  pub map_spelled : (ps : Pairs) (r : List ℕ) → AllGoodPairs ps → Value (map (put_all no_pairs (members_settled ps))) (123 ∷ members_on ps r) r
  map_spelled no_pairs r h = empty_map no_blank
  map_spelled (pair k v ps) r h =
      let w = string_reads k (58 ∷ tree_on v (more_on ps r)) h.0 in
      subst (λ x. Value (map (put_all no_pairs (pair x (settled v) (members_settled ps)))) (123 ∷ members_on (pair k v ps) r) r) w.2
      (a_map (members no_blank w.1 no_blank no_blank (value_spelled v (more_on ps r) h.1) (more_spelled ps r h.2)))

  -- what stands behind a member it reads as the further members, each settled
  pub more_spelled : (ps : Pairs) (r : List ℕ) → AllGoodPairs ps → MoreMembers (members_settled ps) (more_on ps r) r
  more_spelled no_pairs r h = close_map no_blank
  more_spelled (pair k v ps) r h =
      let w = string_reads k (58 ∷ tree_on v (more_on ps r)) h.0 in
      subst (λ x. MoreMembers (pair x (settled v) (members_settled ps)) (more_on (pair k v ps) r) r) w.2
      (comma_map no_blank (members no_blank w.1 no_blank no_blank (value_spelled v (more_on ps r) h.1) (more_spelled ps r h.2)))

-- the text reads back
pub reads_back : (v : Tree) → Good v → Reads (tree_on v []) (settled v)
reads_back v h = unmarked (document no_blank (value_spelled v [] h) no_blank)
