-- Lists that are read from the front of a table's members.
use Rattle.std.proofs.Common.{◌≡◌, ℕ, List, [], ◌∷◌, ◌++◌, map, Option, Some, None, option_and_then, option_map, refl, sym, ap, ◌∙◌, append_assoc, String, Global, append-nil, string_bytes}
use Rattle.std.proofs.lemmas.List.{map-append}
use Rattle.std.proofs.lemmas.Str.{encodes-chars, IsUtf8-string_bytes}
use Rattle.std.specs.Str.{chars, encode_utf8_all}
use Rattle.std.specs.List.{slice_get}
use Rattle.std.specs.String.{string_cmp}
use Rattle.std.specs.Map.{keys_of}
use Rattle.std.specs.Ordering.{nat_cmp}
use Rattle.std.specs.List.{AllByRecursion}
use Rattle.std.specs.List.Sorted.{IsStrictlySortedBy}
use Rattle.std.specs.declared.cmp.Ordering.TheVariants.{Less}
use Rattle.toml.specs.Data.{Data, as_integer}
use Rattle.std.specs.Cmp.Lexicographic.{slice_cmp}
use Rattle.ml_style.specs.Toml.{bounded}
use Rattle.toml.specs.View.{members_view, view}
use Rattle.toml.proofs.Views.{Entry}
use lib.Utf8.{encode}
use Rattle.ml_style.specs.FontTable.{advance_in, advances_of, before, pair_of, only, only_char}
use Rattle.ml_style.specs.Advances.{AreAscending}
use Rattle.ml_style.specs.declared.advance.Advance.{Advance}
use Rattle.ml_style.proofs.Characters.{less_from_bytes}

-- other elements after these, if they are there
abbrev pub after : {X : Type 0} → List X → Option (List X) → Option (List X)
after front rest = option_map (λ xs. front ++ xs) rest

-- one more advance
pub one_more : (done : List Advance) (a : Advance) (found : Option (ℕ × ℕ)) (rest : Option (List (ℕ × ℕ))) →
    Some (pair_of a) ≡ found → after (map pair_of (done ++ a ∷ [])) rest ≡ after (map pair_of done) (before found rest)
one_more done a found None e = rw (← e) refl
one_more done a found (Some ys) e = rw (← e) (ap Some (ap (λ t. t ++ ys) (map-append pair_of done (a ∷ [])) ∙ append_assoc (map pair_of done) (pair_of a ∷ []) ys))

-- the two parts of a list that has been put together
parts : {X : Type 0} (found : Option X) (rest : Option (List X)) (xs : List X) → before found rest ≡ Some xs → (x : X) × (ys : List X) × (found ≡ Some x) × (rest ≡ Some ys) × (xs ≡ x ∷ ys)
parts None rest xs e = absurd cc
parts (Some x) None xs e = absurd cc
parts (Some x) (Some ys) xs e = (x, ys, refl, refl, (let f : Some (x ∷ ys) ≡ Some xs = e in cc))

only_one : (cs : List ℕ) (c : ℕ) → only cs ≡ Some c → cs ≡ c ∷ []
only_one [] c e = absurd cc
only_one (d ∷ []) c e = (let f : Some d ≡ Some c = e in let g : d ≡ c = cc in ap (λ x. x ∷ []) g)
only_one (d ∷ b ∷ cs) c e = absurd cc

-- the bytes of a key of one character
key_bytes : (key : String Global) (c : ℕ) → only_char (string_bytes key) ≡ Some c → string_bytes key ≡ encode c
key_bytes key c e =
    let one = only_one (chars (string_bytes key)) c e in
    sym (encodes-chars (string_bytes key) (IsUtf8-string_bytes key)) ∙ ap encode_utf8_all one ∙ append-nil (encode c)

key_char_at : (ch width : Option ℕ) (a : Advance) → option_and_then (λ c. option_map (λ w. (c, w)) width) ch ≡ Some (pair_of a) → ch ≡ Some a.ch
key_char_at None width a e = absurd cc
key_char_at (Some c) None a e = absurd cc
key_char_at (Some c) (Some w) a e = let f : Some (c, w) ≡ Some (pair_of a) = e in let g : (c, w) ≡ pair_of a = cc in ap Some (ap (λ p. p.0) g)

-- an advance is that of the character of its key
key_char : (key : List ℕ) (width : Data) (a : Advance) → advance_in key width ≡ Some (pair_of a) → only_char key ≡ Some a.ch
key_char key width a e = key_char_at (only_char key) (option_and_then (bounded 0 65535) (as_integer width)) a e

-- a character before the first key of a table of advances is before all of its characters
below_all : (key : String Global) (c : ℕ) (es : List Entry) (as' : List Advance) → string_bytes key ≡ encode c → AllByRecursion (λ y. string_cmp key y ≡ Less) (keys_of es) →
    advances_of (members_view es) ≡ Some (map pair_of as') → AllByRecursion (λ y. nat_cmp c y ≡ Less) (map (λ a. a.ch) as')
below_all key c [] [] k h e = tt
below_all key c [] (a ∷ as') k h e = absurd cc
below_all key c (m ∷ es) [] k h e =
    let p = parts (advance_in (string_bytes m.0) (view m.1)) (advances_of (members_view es)) [] e in
    absurd (let no : [] ≡ p.0 ∷ p.1 = p.4 in cc)
below_all key c (m ∷ es) (a ∷ as') k h e =
    let p = parts (advance_in (string_bytes m.0) (view m.1)) (advances_of (members_view es)) (map pair_of (a ∷ as')) e in
    let same : pair_of a ∷ map pair_of as' ≡ p.0 ∷ p.1 = p.4 in
    let head : p.0 ≡ pair_of a = cc in
    let tail : p.1 ≡ map pair_of as' = cc in
    let ch = key_bytes m.0 a.ch (key_char (string_bytes m.0) (view m.1) a (p.2 ∙ ap Some head)) in
    let less : slice_cmp nat_cmp (encode c) (encode a.ch) ≡ Less = rw (← k, ← ch) h.0 in
    (less_from_bytes c a.ch less, below_all key c es as' k h.1 (p.3 ∙ ap Some tail))

-- the advances of a table whose keys are in byte order are in order of their characters
pub advances_ascend : (es : List Entry) (as' : List Advance) → IsStrictlySortedBy string_cmp (keys_of es) → advances_of (members_view es) ≡ Some (map pair_of as') → AreAscending as'
unfolding IsStrictlySortedBy
advances_ascend [] [] h e = tt
advances_ascend [] (a ∷ as') h e = absurd cc
advances_ascend (m ∷ es) [] h e = tt
advances_ascend (m ∷ es) (a ∷ as') h e =
    let p = parts (advance_in (string_bytes m.0) (view m.1)) (advances_of (members_view es)) (map pair_of (a ∷ as')) e in
    let same : pair_of a ∷ map pair_of as' ≡ p.0 ∷ p.1 = p.4 in
    let head : p.0 ≡ pair_of a = cc in
    let tail : p.1 ≡ map pair_of as' = cc in
    let ch = key_bytes m.0 a.ch (key_char (string_bytes m.0) (view m.1) a (p.2 ∙ ap Some head)) in
    (below_all m.0 a.ch es as' ch h.0 (p.3 ∙ ap Some tail), advances_ascend es as' h.1 (p.3 ∙ ap Some tail))

-- a list of which the front is known, with nothing or something behind it
pub one_left : (cs ds : List ℕ) (c : ℕ) → cs ≡ c ∷ ds → None ≡ slice_get ds 0 → Some c ≡ only cs
one_left cs [] c e h = rw e refl
one_left cs (d ∷ ds) c e h = absurd (let no : None ≡ Some d = h in cc)

-- where something is behind the front, the list has no only element
pub more_left : (cs ds : List ℕ) (c d : ℕ) → cs ≡ c ∷ ds → Some d ≡ slice_get ds 0 → None ≡ only cs
more_left cs [] c d e h = absurd (let no : Some d ≡ None = h in cc)
more_left cs (b ∷ ds) c d e h = rw e refl
