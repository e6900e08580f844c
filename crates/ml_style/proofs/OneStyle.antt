-- A text writes one style at most: each field is read in one way, and each fact that a part carries has one proof at most.
use Rattle.std.proofs.Common.{◌≡◌, ◌≢◌, inl, inr, ℕ, ℤ, ◌*◌, ◌<◌, ◌≤◌, ◌^◌, List, [], ◌∷◌, map, Option, Some, None, true, false, refl, sym, ap, ◌∙◌, subst, arith, nat_cmp}
use Rattle.std.specs.Prelude.{All, is_none, option_and_then, codes, ◌&&◌, ◌⊎◌}
use Rattle.std.specs.Cmp.{tied_itself, nat_cmp_total}
use Rattle.std.specs.declared.cmp.Ordering.TheVariants.{Equal}
use Rattle.std.proofs.Props.{props}
use Rattle.std.proofs.lemmas.Option.{same_Some}
use Rattle.std.proofs.Math.Nat.{eq_of_mul-eq-mul_right}
use mathlib.Core.HLevel.{is_prop→PathP}
use Rattle.toml.specs.Data.{Data, table, Members, no_members, member, Items, no_items, item, get_member, as_str}
use Rattle.ml_ratio.specs.Fraction.{value_of, IsLess, IsSame}
use Rattle.ml_ratio.specs.RatioExact.{ratio_exact}
use Rattle.ml_ratio.specs.declared.feature.Prop.{Prop}
use Rattle.ml_ratio.specs.declared.feature.Scalar.TheVariants.{Str}
use Rattle.ml_ratio.specs.declared.ratio.Ratio.{Ratio}
use Rattle.ml_style.specs.Advances as advances
use Rattle.ml_style.specs.Answer.{IsRefusal}
use Rattle.ml_style.specs.ClassFaults.{IsClassOf, AreClasses}
use Rattle.ml_style.specs.ClassTable.{AreSame, IsRuleOf, IsClassIn}
use Rattle.ml_style.specs.Faults.{first}
use Rattle.ml_style.specs.Fonts.{AreAscending, AreAscending-prop, HasFont, AreFonts}
use Rattle.ml_style.specs.FontTable.{pair_of, IsFontIn, IsFontOf}
use Rattle.ml_style.specs.Offset.{IsOffset}
use Rattle.ml_style.specs.Rule.{IsRule, IsRule-prop}
use Rattle.ml_style.specs.StyleTable.{IsStyle, IsStyleIn, IsFirstFault, style_faults}
use Rattle.ml_style.specs.Toml.{ReadsToml, IsNoToml}
use Rattle.ml_style.specs.declared.advance.Advance.{Advance}
use Rattle.ml_style.specs.declared.class.Class.{Class}
use Rattle.ml_style.specs.declared.fault.StyleFault.{StyleFault}
use Rattle.ml_style.specs.declared.fault.StyleFault.TheVariants.{NotToml, Version, BadFont, BadClass, UnknownFont, EmptyRange, Memory}
use Rattle.ml_style.specs.declared.font.Font.{Font}
use Rattle.ml_style.specs.declared.fonts.NamedFont.{NamedFont}
use Rattle.ml_style.specs.declared.style.Style.{Style}

-- what is read as two values is read as one
one_value : {X : Type 0} (o : Option X) (x y : X) → o ≡ Some x → o ≡ Some y → x ≡ y
one_value o x y p q = same_Some x y (sym p ∙ q)

-- ---- fonts

same_advance_fields : (a b : Advance) → a.ch ≡ b.ch → a.width ≡ b.width → a ≡ b
same_advance_fields a b e f i = record { ch = e i; width = f i; narrow = is_prop→PathP (λ j. f j ≤ 65535) (λ j. hlevel props) a.narrow b.narrow i }

same_advance : (a b : Advance) → pair_of a ≡ pair_of b → a ≡ b
same_advance a b e = same_advance_fields a b (ap (λ (p : ℕ × ℕ). p.0) e) (ap (λ (p : ℕ × ℕ). p.1) e)

same_advances : (xs ys : List Advance) → map pair_of xs ≡ map pair_of ys → xs ≡ ys
same_advances [] [] e = refl
same_advances [] (y ∷ ys) e = cc
same_advances (x ∷ xs) [] e = cc
same_advances (x ∷ xs) (y ∷ ys) e =
    let here : pair_of x ≡ pair_of y = cc in
    let others : map pair_of xs ≡ map pair_of ys = cc in
    let head = same_advance x y here in
    let tail = same_advances xs ys others in
    cc

same_font_fields : (f g : Font) → f.units ≡ g.units → f.fallback ≡ g.fallback → f.advances ≡ g.advances → f ≡ g
same_font_fields f g units fallback widths i =
    record {
      units = units i;
      fallback = fallback i;
      advances = widths i;
      some_units = is_prop→PathP (λ j. 1 ≤ units j) (λ j. hlevel props) f.some_units g.some_units i;
      few_units = is_prop→PathP (λ j. units j ≤ 65535) (λ j. hlevel props) f.few_units g.few_units i;
      narrow = is_prop→PathP (λ j. fallback j ≤ 65535) (λ j. hlevel props) f.narrow g.narrow i;
      ascending = is_prop→PathP (λ j. advances.AreAscending (widths j)) (λ j. advances.AreAscending-prop (widths j)) f.ascending g.ascending i;
    }

one_font_in : (fields : Members) (f g : Font) → IsFontIn fields f → IsFontIn fields g → f ≡ g
one_font_in fields f g a b =
    same_font_fields f g (one_value _ _ _ a.units b.units) (one_value _ _ _ a.fallback b.fallback) (same_advances f.advances g.advances (one_value _ _ _ a.advances b.advances))

one_font : (value : Data) (f g : Font) → IsFontOf value f → IsFontOf value g → f ≡ g
one_font (table fields) f g a b = one_font_in fields f g a b
one_font _ f g a b = absurd a

same_named : (f g : NamedFont) → f.name ≡ g.name → f.font ≡ g.font → f ≡ g
same_named f g e h i = record { name = e i; font = h i }

one_list_of_fonts : (fields : Members) (fs gs : List NamedFont) → AreFonts fields fs → AreFonts fields gs → fs ≡ gs
one_list_of_fonts no_members [] [] a b = refl
one_list_of_fonts no_members [] (g ∷ gs) a b = absurd b
one_list_of_fonts no_members (f ∷ fs) gs a b = absurd a
one_list_of_fonts (member name value rest) [] gs a b = absurd a
one_list_of_fonts (member name value rest) (f ∷ fs) [] a b = absurd b
one_list_of_fonts (member name value rest) (f ∷ fs) (g ∷ gs) a b =
    let head = same_named f g (a.0 ∙ sym b.0) (one_font value f.font g.font a.1 b.1) in
    let tail = one_list_of_fonts rest fs gs a.2 b.2 in
    cc

-- ---- classes

same_cmp : (a b : ℕ) → a ≡ b → nat_cmp a b ≡ Equal
same_cmp a b e = rw e (tied_itself nat_cmp_total b)

-- a bound of a range is one fraction
one_bound : (o : Option (ℕ × ℕ)) (r s : Ratio) → AreSame o (Some r) → AreSame o (Some s) → r ≡ s
one_bound None r s a b = absurd a
one_bound (Some p) r s a b =
    let left : r.num * p.1 * s.den ≡ p.0 * r.den * s.den = ap (λ (n : ℕ). n * s.den) a.1 in
    let right : s.num * p.1 * r.den ≡ p.0 * s.den * r.den = ap (λ (n : ℕ). n * r.den) b.1 in
    let crossed : r.num * s.den ≡ s.num * r.den = eq_of_mul-eq-mul_right p.1 a.0 (r.num * s.den) (s.num * r.den) (omega arith) in
    ratio_exact r s (same_cmp (r.num * s.den) (s.num * r.den) crossed)

same_rule : (a b : Prop) → a.key ≡ b.key → a.value ≡ b.value → a ≡ b
same_rule a b e f i = record { key = e i; value = f i }

-- a class with a rule has the text of its key, so that it is not without a rule
no_rule_at_all : (fields : Members) (rule : Prop) → IsRuleOf fields None → IsRuleOf fields (Some rule) → ⊥
no_rule_at_all fields rule none some = absent (get_member (codes "key") fields) (get_member (codes "value") fields) rule.key none some.2
  where
    absent : (key value : Option Data) (text : List ℕ) → (is_none key && is_none value) ≡ true → option_and_then as_str key ≡ Some text → ⊥
    absent None value text none some = cc
    absent (Some key) value text none some = cc

one_rule : (fields : Members) (a b : Option Prop) → IsRuleOf fields a → IsRuleOf fields b → a ≡ b
one_rule fields None None p q = refl
one_rule fields None (Some b) p q = absurd (no_rule_at_all fields b p q)
one_rule fields (Some a) None p q = absurd (no_rule_at_all fields a q p)
one_rule fields (Some a) (Some b) p q =
    ap Some (same_rule a b (one_value _ _ _ p.2 q.2) (p.1 ∙ ap Str (one_value _ _ _ p.3 q.3) ∙ sym q.1))

same_class : (a b : Class) → a.kind ≡ b.kind → a.rule ≡ b.rule → a.font ≡ b.font → a.size ≡ b.size → a.priority ≡ b.priority →
    a.scale_ref ≡ b.scale_ref → a.dx ≡ b.dx → a.dy ≡ b.dy → a.min ≡ b.min → a.max ≡ b.max → a.margin ≡ b.margin → a ≡ b
same_class a b kind rule font size priority scale_ref dx dy min max margin i =
    record {
      kind = kind i;
      rule = rule i;
      font = font i;
      size = size i;
      priority = priority i;
      scale_ref = scale_ref i;
      dx = dx i;
      dy = dy i;
      min = min i;
      max = max i;
      margin = margin i;
      text_rule = is_prop→PathP (λ j. IsRule (rule j)) (λ j. IsRule-prop (rule j)) a.text_rule b.text_rule i;
      some_size = is_prop→PathP (λ j. 1 ≤ size j) (λ j. hlevel props) a.some_size b.some_size i;
      low_size = is_prop→PathP (λ j. size j ≤ 256) (λ j. hlevel props) a.low_size b.low_size i;
      low_priority = is_prop→PathP (λ j. priority j ≤ 65535) (λ j. hlevel props) a.low_priority b.low_priority i;
      some_ref = is_prop→PathP (λ j. 1 ≤ scale_ref j) (λ j. hlevel props) a.some_ref b.some_ref i;
      low_ref = is_prop→PathP (λ j. scale_ref j ≤ 268435455) (λ j. hlevel props) a.low_ref b.low_ref i;
      low_dx = is_prop→PathP (λ j. IsOffset (dx j)) (λ j. hlevel props) a.low_dx b.low_dx i;
      low_dy = is_prop→PathP (λ j. IsOffset (dy j)) (λ j. hlevel props) a.low_dy b.low_dy i;
      range = is_prop→PathP (λ j. IsLess (value_of (min j)) (value_of (max j))) (λ j. hlevel props) a.range b.range i;
      low_max = is_prop→PathP (λ j. (max j).num ≤ 2 ^ 28 * (max j).den) (λ j. hlevel props) a.low_max b.low_max i;
      low_margin = is_prop→PathP (λ j. margin j ≤ 64) (λ j. hlevel props) a.low_margin b.low_margin i;
    }

one_class_in : (version : ℕ) (fields : Members) (a b : Class) → IsClassIn version fields a → IsClassIn version fields b → a ≡ b
one_class_in version fields a b p q =
    same_class a b (one_value _ _ _ p.kind q.kind) (one_rule fields a.rule b.rule p.rule q.rule) (one_value _ _ _ p.font q.font) (one_value _ _ _ p.size q.size) (one_value _ _ _ p.priority q.priority)
    (one_value _ _ _ p.scale_ref q.scale_ref) (one_value _ _ _ p.dx q.dx) (one_value _ _ _ p.dy q.dy)
    (one_bound _ a.min b.min p.min q.min) (one_bound _ a.max b.max p.max q.max) (one_value _ _ _ p.margin q.margin)

one_class : (version : ℕ) (value : Data) (a b : Class) → IsClassOf version value a → IsClassOf version value b → a ≡ b
one_class version (table fields) a b p q = one_class_in version fields a b p q
one_class version _ a b p q = absurd p

one_list_of_classes : (version : ℕ) (items : Items) (xs ys : List Class) → AreClasses version items xs → AreClasses version items ys → xs ≡ ys
one_list_of_classes version no_items [] [] p q = refl
one_list_of_classes version no_items [] (y ∷ ys) p q = absurd q
one_list_of_classes version no_items (x ∷ xs) ys p q = absurd p
one_list_of_classes version (item value rest) [] ys p q = absurd p
one_list_of_classes version (item value rest) (x ∷ xs) [] p q = absurd q
one_list_of_classes version (item value rest) (x ∷ xs) (y ∷ ys) p q =
    let head = one_class version value x y p.0 q.0 in
    let tail = one_list_of_classes version rest xs ys p.1 q.1 in
    cc

-- ---- styles

same_style : (a b : Style) → a.name_key ≡ b.name_key → a.rank_key ≡ b.rank_key → a.classes ≡ b.classes → a.fonts ≡ b.fonts → a ≡ b
same_style a b name rank classes fonts i =
    record {
      name_key = name i;
      rank_key = rank i;
      classes = classes i;
      fonts = fonts i;
      ascending = is_prop→PathP (λ j. AreAscending (fonts j)) (λ j. AreAscending-prop (fonts j)) a.ascending b.ascending i;
      known = is_prop→PathP (λ j. All (HasFont (fonts j)) (classes j)) (λ j. hlevel props) a.known b.known i;
    }

one_style_in : (fields : Members) (a b : Style) → IsStyleIn fields a → IsStyleIn fields b → a ≡ b
one_style_in fields a b p q =
    let version = one_value _ _ _ p.version_is q.version_is in
    same_style a b (p.name_key ∙ sym q.name_key) (p.rank_key ∙ sym q.rank_key)
    (one_list_of_classes q.version _ a.classes b.classes (rw version at p.classes) q.classes)
    (one_list_of_fonts _ a.fonts b.fonts p.fonts q.fonts)

-- a text is one table
one_table : (bytes : List ℕ) (a b : Members) → ReadsToml bytes a → ReadsToml bytes b → a ≡ b
one_table bytes a b p q = one_value _ a b p.1 q.1

-- bytes are one style at most
pub one_style : (bytes : List ℕ) (a b : Style) → IsStyle bytes a → IsStyle bytes b → a ≡ b
one_style bytes a b (one, reads, faultless, is) (other, reads_other, faultless_other, is_other) =
    let same = one_table bytes one other reads reads_other in
    one_style_in other a b (rw same at is) is_other

-- ---- faults

one_first : (bytes : List ℕ) (a b : StyleFault) → IsFirstFault bytes a → IsFirstFault bytes b → a ≡ b
one_first bytes a b (one, reads, is) (other, reads_other, is_other) =
    let same = one_table bytes one other reads reads_other in
    one_value (first (style_faults other)) a b (rw same at is) is_other

-- what is told of bytes that are refused: that they are no TOML text, or the first fault
seen : (bytes : List ℕ) (fault : StyleFault) → fault ≢ Memory → IsRefusal bytes fault → ((fault ≡ NotToml) × IsNoToml bytes) ⊎ IsFirstFault bytes fault
seen bytes NotToml some is = inl (refl, is)
seen bytes Version some is = inr is
seen bytes (BadFont name) some is = inr is
seen bytes (BadClass k field) some is = inr is
seen bytes (UnknownFont k) some is = inr is
seen bytes (EmptyRange k) some is = inr is
seen bytes Memory some is = absurd (some refl)

one_seen : (bytes : List ℕ) (a b : StyleFault) → ((a ≡ NotToml) × IsNoToml bytes) ⊎ IsFirstFault bytes a → ((b ≡ NotToml) × IsNoToml bytes) ⊎ IsFirstFault bytes b → a ≡ b
one_seen bytes a b (inl p) (inl q) = p.0 ∙ sym q.0
one_seen bytes a b (inl p) (inr q) = absurd (p.1 q.0 q.1)
one_seen bytes a b (inr p) (inl q) = absurd (q.1 p.0 p.1)
one_seen bytes a b (inr p) (inr q) = one_first bytes a b p q

-- bytes are refused for one fault at most, apart from the want of memory
pub one_fault : (bytes : List ℕ) (a b : StyleFault) → a ≢ Memory → b ≢ Memory → IsRefusal bytes a → IsRefusal bytes b → a ≡ b
one_fault bytes a b some another p q = one_seen bytes a b (seen bytes a some p) (seen bytes b another q)
