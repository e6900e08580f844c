-- The faults of a class after some of its fields.
use Rattle.std.proofs.Common.{◌≡◌, ℕ, true, false, List, [], ◌∷◌, ◌++◌, ◌||◌, Option, Some, None, is_some, option_map, find, refl, sym, ap, ◌∙◌, arith, Bool, cond, Bor, IsSome}
use Rattle.std.proofs.lemmas.Bool.Decides.{nat_tests}
use Rattle.std.specs.Option.{option_copied}
use Rattle.std.specs.List.{list_any}
use Rattle.std.specs.Str.{bytes_eq}
use Rattle.toml.specs.Data.{Members}
use Rattle.ml_ratio.specs.declared.ratio.Ratio.{Ratio}
use Rattle.ml_ratio.specs.Fraction.{IsLess, value_of}
use Rattle.ml_style.specs.Faults.{fault_if}
use Rattle.ml_style.specs.Fonts.{names_of, font_named}
use Rattle.ml_style.specs.ClassTable.{kind_in, font_in, min_in, max_in, AreSame}
use Rattle.ml_style.specs.ClassFaults.{needs, look_faults, placing_faults, range_faults, margin_faults, use_faults, is_unknown, is_empty_range, is_at_most, faults_in}
use Rattle.ml_style.proofs.Bounds.{same_order}
use Rattle.ml_style.specs.declared.class.Kind.{Kind}
use Rattle.ml_style.specs.declared.font.Font.{Font}
use Rattle.ml_style.specs.declared.fonts.NamedFont.{NamedFont}
use Rattle.ml_style.specs.declared.fault.StyleFault.{StyleFault}
use Rattle.ml_style.specs.declared.fault.StyleFault.TheVariants.{UnknownFont, EmptyRange}

known_at : (same : Bool) (f : NamedFont) (rest : Option NamedFont) (more : Bool) → is_some (option_map (λ (g : NamedFont). g.font) rest) ≡ more →
    is_some (option_map (λ (g : NamedFont). g.font) (cond same (Some f) rest)) ≡ (same || more)
known_at true f rest more e = refl
known_at false f rest more e = e

-- a font is found exactly where its name is among the names
pub is_known : (fonts : List NamedFont) (name : List ℕ) → is_some (font_named fonts name) ≡ list_any (λ n. bytes_eq n name) (names_of fonts)
is_known [] name = refl
is_known (f ∷ fonts) name = known_at (bytes_eq f.name name) f (find (λ (g : NamedFont). bytes_eq g.name name) fonts) (list_any (λ n. bytes_eq n name) (names_of fonts)) (is_known fonts name)

-- what a search for a font says of the names
pub known_if : (fonts : List NamedFont) (name : List ℕ) (o : Option (Bor Font)) (b : Bool) →
    option_copied o ≡ font_named fonts name → is_some o ≡ b → list_any (λ n. bytes_eq n name) (names_of fonts) ≡ b
known_if fonts name None b e h = sym (is_known fonts name) ∙ ap is_some (sym e) ∙ h
known_if fonts name (Some f) b e h = sym (is_known fonts name) ∙ ap is_some (sym e) ∙ h

-- where a search gives a font, there is one with the name
pub is_found : (fonts : List NamedFont) (name : List ℕ) (o : Option (Bor Font)) → option_copied o ≡ font_named fonts name → is_some o ≡ true → IsSome (font_named fonts name)
is_found fonts name None e h = absurd cc
is_found fonts name (Some f) e h = ap is_some (sym e)

same_none : (o : Option (ℕ × ℕ)) (r : Ratio) → AreSame o (Some r) → (p : ℕ × ℕ) × (o ≡ Some p) × AreSame (Some p) (Some r)
same_none None r h = absurd h
same_none (Some p) r h = (p, refl, h)

-- of two ratios the greater is not at most the lesser
pub not_at_most : (a b : Ratio) → IsLess (value_of a) (value_of b) → is_at_most b a ≡ false
not_at_most a b h = grind (arith, nat_tests)

-- a bound is there exactly where its parts are
pub needs_same : (k : ℕ) (field : List ℕ) (o : Option (ℕ × ℕ)) (r : Option Ratio) → AreSame o r → needs k field o ≡ needs k field r
needs_same k field None None h = refl
needs_same k field None (Some r) h = absurd h
needs_same k field (Some p) None h = absurd h
needs_same k field (Some p) (Some r) h = refl

module _ (version : ℕ) (names : List (List ℕ)) (k : ℕ) (t : Members) where
  -- the faults behind those of the fields
  abbrev pub last_faults : List StyleFault
  last_faults = fault_if (is_unknown names (font_in t)) (UnknownFont k) ++ fault_if (is_empty_range (min_in t) (max_in t)) (EmptyRange k)

  -- the faults behind those of the range
  abbrev pub late_faults : List StyleFault
  late_faults = margin_faults version k t ++ last_faults

  -- the faults of a class with a look
  pub after_look : (kind : Kind) → look_faults k t ≡ [] → kind_in t ≡ Some kind → faults_in version names k t ≡ placing_faults k (Some kind) t ++ (range_faults k t ++ late_faults)
  after_look kind h e =
      ap (λ (x : List StyleFault). x ++ (placing_faults k (kind_in t) t ++ (range_faults k t ++ late_faults))) h ∙ ap (λ (o : Option Kind). placing_faults k o t ++ (range_faults k t ++ late_faults)) e

  -- the faults of a class with a look and a placing
  pub after_placing : (kind : Kind) → look_faults k t ≡ [] → kind_in t ≡ Some kind → placing_faults k (Some kind) t ≡ [] → faults_in version names k t ≡ range_faults k t ++ late_faults
  after_placing kind h e f = after_look kind h e ∙ ap (λ (x : List StyleFault). x ++ (range_faults k t ++ late_faults)) f

  -- the faults of a class with a look, a placing and a range
  pub after_range : (kind : Kind) → look_faults k t ≡ [] → kind_in t ≡ Some kind → placing_faults k (Some kind) t ≡ [] → range_faults k t ≡ [] → faults_in version names k t ≡ late_faults
  after_range kind h e f g = after_placing kind h e f ∙ ap (λ (x : List StyleFault). x ++ late_faults) g

  -- the faults of a class whose fields all have values
  pub after_margin : (kind : Kind) (font : List ℕ) (min max : Ratio) → look_faults k t ≡ [] → kind_in t ≡ Some kind →
      placing_faults k (Some kind) t ≡ [] → range_faults k t ≡ [] → margin_faults version k t ≡ [] → font_in t ≡ Some font →
      AreSame (min_in t) (Some min) → AreSame (max_in t) (Some max) → faults_in version names k t ≡ use_faults names k font min max
  after_margin kind font min max h e f g j i a b =
      let m = same_none (min_in t) min a in
      let n = same_none (max_in t) max b in
      let same : is_empty_range (min_in t) (max_in t) ≡ is_at_most max min = rw (m.1, n.1) (same_order m.0 n.0 min max m.2 n.2) in
      after_range kind h e f g ∙ ap (λ (x : List StyleFault). x ++ last_faults) j
      ∙ ap (λ (o : Option (List ℕ)). fault_if (is_unknown names o) (UnknownFont k) ++ fault_if (is_empty_range (min_in t) (max_in t)) (EmptyRange k)) i
      ∙ ap (λ (b : Bool). fault_if (is_unknown names (Some font)) (UnknownFont k) ++ fault_if b (EmptyRange k)) same

-- a field that is read for the kind of a class is that of the class
pub for_kind : {X : Type 0} (read : Option Kind → Option X) (t : Members) (kind : Kind) (x : X) → kind_in t ≡ Some kind → read (Some kind) ≡ Some x → read (kind_in t) ≡ Some x
for_kind read t kind x a b = ap read a ∙ b
