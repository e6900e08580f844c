-- The fonts of a table beside its members.
use Rattle.std.proofs.Common.{◌≡◌, ℕ, List, [], ◌∷◌, ◌++◌, map, refl, ap, ◌∙◌, String, Global, string_bytes, false, not, Option, Some, None, inl, inr, ◌⊎◌, append_assoc}
use Rattle.std.specs.String.{string_cmp}
use Rattle.std.specs.Map.{keys_of}
use Rattle.std.specs.Ordering.{nat_cmp}
use Rattle.std.specs.Cmp.Lexicographic.{slice_cmp}
use Rattle.std.specs.List.{AllByRecursion}
use Rattle.std.specs.List.Sorted.{IsStrictlySortedBy}
use Rattle.std.specs.declared.cmp.Ordering.TheVariants.{Less, Greater}
use Rattle.toml.specs.View.{members_view, view}
use Rattle.toml.proofs.Views.{Entry}
use Rattle.std.specs.Ordering.{is_lt, ordering_reverse}
use Rattle.std.proofs.lemmas.Bool.{cases_Bool}
use Rattle.std.proofs.lemmas.Cmp.{nat_list_cmp_total}
use Rattle.ml_style.specs.Faults.{fault_if, Refuses}
use Rattle.ml_style.specs.FontTable.{is_font, IsFontOf}
use Rattle.ml_style.specs.declared.fault.StyleFault.{StyleFault}
use Rattle.ml_style.specs.declared.fault.StyleFault.TheVariants.{BadFont}
use Rattle.ml_style.specs.Fonts.{AreFonts, AreAscending, names_of, keys, bad_names, lesser, least, font_faults}
use Rattle.toml.specs.Data.{Data, Members, no_members, member}
use Rattle.ml_style.proofs.Refusals.{refuses_on}
use Rattle.ml_style.specs.declared.fonts.NamedFont.{NamedFont}

-- a key before the keys of a table of fonts is before all of their names
before_all : (key : String Global) (es : List Entry) (fonts : List NamedFont) → AllByRecursion (λ y. string_cmp key y ≡ Less) (keys_of es) →
    AreFonts (members_view es) fonts → AllByRecursion (λ y. slice_cmp nat_cmp (string_bytes key) y ≡ Less) (map (λ f. f.name) fonts)
before_all key [] [] h a = tt
before_all key [] (f ∷ fonts) h a = absurd a
before_all key (m ∷ es) [] h a = absurd a
before_all key (m ∷ es) (f ∷ fonts) h a = (rw a.0 h.0, before_all key es fonts h.1 a.2)

-- the fonts of a table whose keys are in byte order are in byte order of their names
pub fonts_ascend : (es : List Entry) (fonts : List NamedFont) → IsStrictlySortedBy string_cmp (keys_of es) → AreFonts (members_view es) fonts → AreAscending fonts
unfolding IsStrictlySortedBy
fonts_ascend [] [] h a = tt
fonts_ascend [] (f ∷ fonts) h a = absurd a
fonts_ascend (m ∷ es) [] h a = tt
fonts_ascend (m ∷ es) (f ∷ fonts) h a = (rw a.0 (before_all m.0 es fonts h.0 a.2), fonts_ascend es fonts h.1 a.2)

-- the names of the fonts of a table are its keys
pub names-keys : (members : Members) (fonts : List NamedFont) → AreFonts members fonts → names_of fonts ≡ keys members
names-keys no_members [] a = refl
names-keys no_members (f ∷ fonts) a = absurd a
names-keys (member name d rest) [] a = absurd a
names-keys (member name d rest) (f ∷ fonts) a = rw a.0 (ap (λ (names : List (List ℕ)). name ∷ names) (names-keys rest fonts a.2))

-- the lesser of a text and another is one of them
lesser_is : (text : List ℕ) (o : Option (List ℕ)) → (lesser text o ≡ text) ⊎ (o ≡ Some (lesser text o))
lesser_is text None = inl refl
lesser_is text (Some other) =
    elim (cases_Bool (is_lt (slice_cmp nat_cmp other text))) [
      | inl t ↦ inr (rw t refl)
      | inr f ↦ inl (rw f refl)
    ]

-- a text that comes before another is the lesser
lesser_first : (text : List ℕ) (o : Option (List ℕ)) → ((other : List ℕ) → o ≡ Some other → slice_cmp nat_cmp other text ≡ Greater) → lesser text o ≡ text
lesser_first text None h = refl
lesser_first text (Some other) h = rw (h other refl) refl

flipped : (k l : List ℕ) → slice_cmp nat_cmp k l ≡ Less → slice_cmp nat_cmp l k ≡ Greater
flipped k l h = nat_list_cmp_total.antisymm l k ∙ ap ordering_reverse h

-- a key before the keys of a table comes before all of its names that stand for no font
before_least : (key : String Global) (es : List Entry) (name : List ℕ) → AllByRecursion (λ y. string_cmp key y ≡ Less) (keys_of es) →
    least (bad_names (members_view es)) ≡ Some name → slice_cmp nat_cmp name (string_bytes key) ≡ Greater
before_least key [] name h e = absurd cc
before_least key (m ∷ es) name h e =
    elim (cases_Bool (is_font (view m.1))) [
      | inl t ↦ before_least key es name h.1 (rw t at e)
      | inr f ↦ (
          let others = least (bad_names (members_view es)) in
          let is : Some (lesser (string_bytes m.0) others) ≡ Some name = rw f at e in
          let same : lesser (string_bytes m.0) others ≡ name = cc in
          elim (lesser_is (string_bytes m.0) others) [
            | inl first ↦ rw (← same, first) (flipped (string_bytes key) (string_bytes m.0) h.0)
            | inr later ↦ before_least key es name h.1 (later ∙ ap Some same)
          ])
    ]

-- in a table whose keys are in byte order the first name that stands for no font is the least
first_bad : (m : Entry) (es : List Entry) → IsStrictlySortedBy string_cmp (keys_of (m ∷ es)) → is_font (view m.1) ≡ false → font_faults (members_view (m ∷ es)) ≡ BadFont (string_bytes m.0) ∷ []
unfolding IsStrictlySortedBy
first_bad m es h bad =
    let first = lesser_first (string_bytes m.0) (least (bad_names (members_view es))) (λ other e. before_least m.0 es other h.0 e) in
    rw bad (ap (λ (name : List ℕ). BadFont name ∷ []) first)

-- past a font the faults are those of the others
pub past_font : (m : Entry) (es : List Entry) → fault_if (not (is_font (view m.1))) (BadFont (string_bytes m.0)) ≡ [] → font_faults (members_view (m ∷ es)) ≡ font_faults (members_view es)
past_font m es none =
    elim (cases_Bool (is_font (view m.1))) [
      | inl t ↦ rw t refl
      | inr f ↦ absurd (let no : BadFont (string_bytes m.0) ∷ [] ≡ [] = rw f at none in cc)
    ]

-- the refusal of the first font is that of all
pub refused_font : (e : StyleFault) (m : Entry) (es : List Entry) → IsStrictlySortedBy string_cmp (keys_of (m ∷ es)) →
    Refuses e (fault_if (not (is_font (view m.1))) (BadFont (string_bytes m.0))) → Refuses e (font_faults (members_view (m ∷ es)))
refused_font e m es h r =
    elim (cases_Bool (is_font (view m.1))) [
      | inl t ↦ (let none : Refuses e [] = rw t at r in refuses_on e [] (font_faults (members_view (m ∷ es))) none)
      | inr f ↦ (let one : Refuses e (BadFont (string_bytes m.0) ∷ []) = rw f at r in rw (first_bad m es h f) one)
    ]

-- behind the first key the others are in byte order
pub sorted_rest : (m : Entry) (es : List Entry) → IsStrictlySortedBy string_cmp (keys_of (m ∷ es)) → IsStrictlySortedBy string_cmp (keys_of es)
unfolding IsStrictlySortedBy
sorted_rest m es h = h.1

-- one more font
pub one_more_font : (all rest : Members) (name : List ℕ) (value : Data) (done : List NamedFont) (f : NamedFont) → f.name ≡ name → IsFontOf value f.font
    → ((xs : List NamedFont) → AreFonts (member name value rest) xs → AreFonts all (done ++ xs))
    → (xs : List NamedFont) → AreFonts rest xs → AreFonts all ((done ++ f ∷ []) ++ xs)
one_more_font all rest name value done f named is h xs r = rw (append_assoc done (f ∷ []) xs) (h (f ∷ xs) (named, is, r))
