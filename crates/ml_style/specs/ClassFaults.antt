-- What is wrong with a class, field by field, and with its font and range.
use Rattle.std.specs.Prelude.{ℕ, ◌+◌, nat_le, ◌*◌, Bool, false, not, ◌&&◌, List, [], ◌∷◌, ◌++◌, Option, Some, None, is_none, codes}
use Rattle.std.specs.List.{list_any}
use Rattle.std.specs.Str.{bytes_eq}
use Rattle.ml_ratio.specs.declared.ratio.Ratio.{Ratio}
use Rattle.toml.specs.Data.{Data, table, Members, Items, no_items, item}
use Rattle.ml_style.specs.Toml.{text_at}
use Rattle.ml_style.specs.Faults.{fault_if}
use Rattle.ml_style.specs.Fonts.{HasFont}
use Rattle.ml_style.specs.ClassTable.{kind_in, has_no_rule, font_in, size_in, priority_in, ref_for, offset_for, min_in, max_in, margin_for, IsClassIn}
use Rattle.ml_style.specs.declared.fault.StyleFault.{StyleFault}
use Rattle.ml_style.specs.declared.fault.StyleFault.TheVariants.{BadClass, UnknownFont, EmptyRange}
use Rattle.ml_style.specs.declared.class.Kind.{Kind}
use Rattle.ml_style.specs.declared.class.Class.{Class}
use Rattle.ml_style.specs.declared.fonts.NamedFont.{NamedFont}

-- the field of class k is wrong where it has no value
abbrev pub needs : {X : Type 0} → ℕ → List ℕ → Option X → List StyleFault
needs k field value = fault_if (is_none value) (BadClass k field)

-- where a class has a rule, the key or value of it is wrong where it is no text
abbrev pub needs_part : ℕ → List ℕ → Members → List StyleFault
needs_part k field class = fault_if (not (has_no_rule class) && is_none (text_at field class)) (BadClass k field)

-- the wrong parts of the rule of class k
abbrev pub rule_faults : ℕ → Members → List StyleFault
rule_faults k class = needs_part k (codes "key") class ++ needs_part k (codes "value") class

-- what is wrong with how class k looks
abbrev pub look_faults : ℕ → Members → List StyleFault
look_faults k class =
    needs k (codes "geometry") (kind_in class)
    ++ (rule_faults k class
    ++ (needs k (codes "font") (font_in class)
    ++ (needs k (codes "size") (size_in class)
    ++ needs k (codes "priority") (priority_in class))))

-- what is wrong with how the text of class k, of this kind, is fitted and placed
abbrev pub placing_faults : ℕ → Option Kind → Members → List StyleFault
placing_faults k kind class =
    needs k (codes "ref") (ref_for kind class)
    ++ (needs k (codes "dx") (offset_for kind (codes "dx") class)
    ++ needs k (codes "dy") (offset_for kind (codes "dy") class))

-- what is wrong with the margin of class k, in a style of this version
abbrev pub margin_faults : ℕ → ℕ → Members → List StyleFault
margin_faults version k class = needs k (codes "margin") (margin_for version class)

-- what is wrong with the bounds of the range of class k
abbrev pub range_faults : ℕ → Members → List StyleFault
range_faults k class = needs k (codes "min") (min_in class) ++ needs k (codes "max") (max_in class)

-- whether none of the names is that of the font
abbrev pub is_unknown : List (List ℕ) → Option (List ℕ) → Bool
is_unknown names None = false
is_unknown names (Some font) = not (list_any (λ name. bytes_eq name font) names)

-- whether a fraction is at most another
abbrev pub is_at_most : Ratio → Ratio → Bool
is_at_most a b = nat_le (a.num * b.den) (b.num * a.den)

-- whether a range ends where it begins, or before
abbrev pub is_empty_range : Option (ℕ × ℕ) → Option (ℕ × ℕ) → Bool
is_empty_range (Some min) (Some max) = nat_le (max.0 * min.1) (min.0 * max.1)
is_empty_range _ _ = false

-- what is wrong with a font of this name and a range of these bounds for class k
abbrev pub use_faults : List (List ℕ) → ℕ → List ℕ → Ratio → Ratio → List StyleFault
use_faults names k font min max = fault_if (is_unknown names (Some font)) (UnknownFont k) ++ fault_if (is_at_most max min) (EmptyRange k)

-- the faults of class k, in the order of its fields; then its font may be unknown, and then its range empty
abbrev pub faults_in : ℕ → List (List ℕ) → ℕ → Members → List StyleFault
faults_in version names k class =
    look_faults k class
    ++ (placing_faults k (kind_in class) class
    ++ (range_faults k class
    ++ (margin_faults version k class
    ++ (fault_if (is_unknown names (font_in class)) (UnknownFont k)
    ++ fault_if (is_empty_range (min_in class) (max_in class)) (EmptyRange k)))))

-- the faults of what stands for class k, which must be a table
abbrev pub class_faults : ℕ → List (List ℕ) → ℕ → Data → List StyleFault
class_faults version names k (table class) = faults_in version names k class
class_faults version names k _ = BadClass k (codes "class") ∷ []

-- the class that a value writes
abbrev pub IsClassOf : ℕ → Data → Class → Type 0
IsClassOf version (table fields) class = IsClassIn version fields class
IsClassOf version _ class = ⊥

-- the class that a table of it writes, with one of the fonts
abbrev pub IsClassWith : ℕ → List NamedFont → Members → Class → Type 0
IsClassWith version fonts fields class = IsClassIn version fields class × HasFont fonts class

-- the class that a value writes, with one of the fonts
abbrev pub IsClassOver : ℕ → List NamedFont → Data → Class → Type 0
IsClassOver version fonts value class = IsClassOf version value class × HasFont fonts class

-- the faults of classes that are counted from k, class by class
abbrev pub classes_faults : ℕ → List (List ℕ) → ℕ → Items → List StyleFault
classes_faults version names k no_items = []
classes_faults version names k (item class rest) = class_faults version names k class ++ classes_faults version names (k + 1) rest

-- the classes that a list of them writes, one each
abbrev pub AreClasses : ℕ → Items → List Class → Type 0
AreClasses version no_items [] = Unit {0}
AreClasses version (item value rest) (class ∷ classes) = IsClassOf version value class × AreClasses version rest classes
AreClasses version _ _ = ⊥
