-- Lists of lists as trees, and keys and types in UTF-8.
use Rattle.std.proofs.Common.{◌≡◌, ℕ, zero, suc, List, [], ◌∷◌, ◌++◌, map as mapped, Bool, true, ◌&&◌, nat_lt, codes, Result, refl, ◌∙◌, ap, subst, arith, append_assoc, OnOk}
use Rattle.std.specs.Str.{IsUtf8, IsAscii}
use Rattle.std.proofs.lemmas.Bool.Decides.{nat_tests}
use Rattle.std.proofs.lemmas.Result.{on_ok_weaker}
use Rattle.std.proofs.lemmas.Str.{IsUtf8-from_ascii}
use Rattle.ml_json.specs.Tree.{Tree, list, more}
use Rattle.ml_json.specs.View.{trees_of}
use Rattle.ml_json.specs.Canonical.{tree_on, HasUtf8}
use Rattle.ml_ratio.specs.declared.geometry.Pos.{Pos}
use Rattle.ml_geojson.specs.Shape.{place_of, places_of, lines_of, polygons_of}
use Rattle.ml_geojson.specs.Text.{place_tree, line_tree, lines_tree, list_tree, typed_tree}

items_same : {X Y : Type 0} (f : X → Tree) (g : Y → Tree) (h : X → Y) → ((x : X) → f x ≡ g (h x)) → (xs : List X) →
    trees_of (mapped f xs) ≡ trees_of (mapped g (mapped h xs))
items_same f g h e [] = refl
items_same f g h e (x ∷ xs) = ap (λ t. more t (trees_of (mapped f xs))) (e x) ∙ ap (more (g (h x))) (items_same f g h e xs)

list_same : {X Y : Type 0} (f : X → Tree) (g : Y → Tree) (h : X → Y) → ((x : X) → f x ≡ g (h x)) → (xs : List X) →
    list_tree f xs ≡ list_tree g (mapped h xs)
list_same f g h e xs = ap list (items_same f g h e xs)

-- the tree of a position
abbrev pub pos_tree : Pos → Tree
pos_tree position = place_tree (place_of position)

-- the tree of a line or ring
pub line_same : (line : List Pos) → list_tree pos_tree line ≡ line_tree (places_of line)
line_same line = list_same pos_tree place_tree place_of (λ _. refl) line

-- that of lines or rings
pub lines_same : (lines : List (List Pos)) → list_tree (list_tree pos_tree) lines ≡ lines_tree (lines_of lines)
lines_same lines = list_same (list_tree pos_tree) line_tree places_of line_same lines

-- that of polygons
pub polygons_same : (parts : List (List (List Pos))) → list_tree (list_tree (list_tree pos_tree)) parts ≡ list_tree lines_tree (polygons_of parts)
polygons_same parts = list_same (list_tree (list_tree pos_tree)) lines_tree lines_of lines_same parts

-- a literal behind what was written, and what follows
pub behind : (new old literal rest : List ℕ) → new ≡ old ++ literal → new ++ rest ≡ old ++ (literal ++ rest)
behind new old literal rest e = ap (λ s. s ++ rest) e ∙ append_assoc old literal rest

-- whether all bytes are below 128
abbrev pub are_low : List ℕ → Bool
are_low [] = true
are_low (b ∷ bs) = nat_lt b 128 && are_low bs

low_ascii : (bs : List ℕ) → are_low bs ≡ true → IsAscii bs
low_ascii [] h i = omega arith
low_ascii (b ∷ bs) h zero = grind (arith, nat_tests)
low_ascii (b ∷ bs) h (suc i) = let low : are_low bs ≡ true = grind (arith, nat_tests) in low_ascii bs low i

-- bytes that are written out and below 128 are UTF-8
pub low_utf8 : (bs : List ℕ) → are_low bs ≡ true → IsUtf8 bs
low_utf8 bs h = IsUtf8-from_ascii bs (low_ascii bs h)

-- what is put down as the text of a tree is that of an equal one
pub same_text : {T E : Type 0} (result : Result T E) (new old : List ℕ) (t u : Tree) → t ≡ u →
    OnOk result ((r : List ℕ) → new ++ r ≡ old ++ tree_on t r) → OnOk result ((r : List ℕ) → new ++ r ≡ old ++ tree_on u r)
same_text result new old t u e h = subst (λ x. OnOk result ((r : List ℕ) → new ++ r ≡ old ++ tree_on x r)) e h

-- the texts of a geometry are UTF-8 where those of its coordinates are
pub typed_utf8 : {T E : Type 0} (result : Result T E) (type : List ℕ) (t u : Tree) → are_low type ≡ true → typed_tree type t ≡ u →
    OnOk result (HasUtf8 t) → OnOk result (HasUtf8 u)
typed_utf8 result type t u low e h =
    on_ok_weaker result (λ v. subst HasUtf8 e (low_utf8 (codes "type") refl, low_utf8 type low, (low_utf8 (codes "coordinates") refl, v, tt))) h
