-- A class from the TOML table that writes it.
use Rattle.std.specs.Prelude.{◌≡◌, ℕ, ℤ, pos, negsuc, int_le, nat_le, nat_lt, ◌*◌, ◌<◌, Bool, true, ◌&&◌, List, Option, Some, None, option_and_then, if◌then◌else◌, codes}
use Rattle.std.specs.Option.{option_map}
use Rattle.std.specs.Str.{bytes_eq}
use Rattle.toml.specs.Data.{Data, Members, get_member, as_integer}
use Rattle.ml_ratio.specs.RatioText.{ratio_parts}
use Rattle.ml_ratio.specs.declared.ratio.Ratio.{Ratio}
use Rattle.ml_ratio.specs.declared.feature.Prop.{Prop}
use Rattle.ml_ratio.specs.declared.feature.Scalar.TheVariants.{Str}
use Rattle.ml_style.specs.Toml.{is_absent, text_at, bounded, count_at}
use Rattle.ml_style.specs.declared.class.Kind.{Kind}
use Rattle.ml_style.specs.declared.class.Kind.TheVariants.{PointKind, LineKind, AreaKind}
use Rattle.ml_style.specs.declared.class.Class.{Class}

-- the kind that a text names
abbrev pub kind_named : List ℕ → Option Kind
kind_named text =
    if bytes_eq text (codes "point") then Some PointKind
    else (if bytes_eq text (codes "line") then Some LineKind
    else (if bytes_eq text (codes "area") then Some AreaKind else None))

-- the kind of a class
abbrev pub kind_in : Members → Option Kind
kind_in class = option_and_then kind_named (text_at (codes "geometry") class)

-- whether a class has no rule: neither a key nor a value
abbrev pub has_no_rule : Members → Bool
has_no_rule class = is_absent (codes "key") class && is_absent (codes "value") class

-- the name of the font of a class
abbrev pub font_in : Members → Option (List ℕ)
font_in class = text_at (codes "font") class

-- the size of a class: 1 to 256
abbrev pub size_in : Members → Option ℕ
size_in class = count_at (codes "size") 1 256 class

-- the priority of a class: 0 to 65535
abbrev pub priority_in : Members → Option ℕ
priority_in class = count_at (codes "priority") 0 65535 class

-- the scale that a text of this kind is fitted at: 1 to 268435455 for a line, and 1 for others, whatever stands there
abbrev pub ref_for : Option Kind → Members → Option ℕ
ref_for (Some LineKind) class = count_at (codes "ref") 1 268435455 class
ref_for _ class = Some 1

-- an offset: -256 to 256
abbrev pub offset : ℤ → Option ℤ
offset z = if int_le (negsuc 255) z && int_le z (pos 256) then Some z else None

-- the offset that stands at a place, 0 where nothing does
abbrev pub offset_from : Option Data → Option ℤ
offset_from None = Some (pos 0)
offset_from (Some value) = option_and_then offset (as_integer value)

-- the offset at a key
abbrev pub offset_at : List ℕ → Members → Option ℤ
offset_at key class = offset_from (get_member key class)

-- the offset of labels of this kind: what stands at the key, but 0 for lines
abbrev pub offset_for : Option Kind → List ℕ → Members → Option ℤ
offset_for (Some LineKind) key class = option_map (λ _. pos 0) (offset_at key class)
offset_for _ key class = offset_at key class

-- whether n/d is a fraction within the bounds of a `Ratio`, and at most 268435456
abbrev pub is_bound : ℕ × ℕ → Bool
is_bound p = nat_lt 0 p.1 && (nat_le p.1 65536 && (nat_le p.0 4294967296 && nat_le p.0 (268435456 * p.1)))

-- the bound of a range of scales that a text writes
abbrev pub bound : List ℕ → Option (ℕ × ℕ)
bound text = option_and_then (λ p. if is_bound p then Some p else None) (ratio_parts text)

-- the bound at a key
abbrev pub bound_at : List ℕ → Members → Option (ℕ × ℕ)
bound_at key class = option_and_then bound (text_at key class)

-- the scale from which on the labels of a class may be shown
abbrev pub min_in : Members → Option (ℕ × ℕ)
min_in class = bound_at (codes "min") class

-- a bound above 0
abbrev pub above_zero : ℕ × ℕ → Option (ℕ × ℕ)
above_zero p = if nat_lt 0 p.0 then Some p else None

-- the scale from which on they may not, which is above 0
abbrev pub max_in : Members → Option (ℕ × ℕ)
max_in class = option_and_then above_zero (bound_at (codes "max") class)

-- the margin that stands at a place, 0 where nothing does: 0 to 64
abbrev pub margin_from : Option Data → Option ℕ
margin_from None = Some 0
margin_from (Some value) = option_and_then (bounded 0 64) (as_integer value)

-- the margin of labels in a style of this version: version 1 passes it over
abbrev pub margin_for : ℕ → Members → Option ℕ
margin_for version class = if nat_lt version 2 then Some 0 else margin_from (get_member (codes "margin") class)

-- the same value, or none both
abbrev pub AreSame : Option (ℕ × ℕ) → Option Ratio → Type 0
AreSame None None = Unit {0}
AreSame (Some p) (Some r) = (0 < p.1) × (r.num * p.1 ≡ p.0 * r.den)
AreSame _ _ = ⊥

-- the rule that a class writes, if it writes one
abbrev pub IsRuleOf : Members → Option Prop → Type 0
IsRuleOf class None = has_no_rule class ≡ true
IsRuleOf class (Some rule) = (value : List ℕ) × (rule.value ≡ Str value) × (text_at (codes "key") class ≡ Some rule.key) × (text_at (codes "value") class ≡ Some value)

-- the class that a table of it writes, in a style of this version
pub record IsClassIn (version : ℕ) (table : Members) (class : Class) : Type 0 where
  pub kind : kind_in table ≡ Some class.kind
  pub rule : IsRuleOf table class.rule
  pub font : font_in table ≡ Some class.font
  pub size : size_in table ≡ Some class.size
  pub priority : priority_in table ≡ Some class.priority
  pub scale_ref : ref_for (kind_in table) table ≡ Some class.scale_ref
  pub dx : offset_for (kind_in table) (codes "dx") table ≡ Some class.dx
  pub dy : offset_for (kind_in table) (codes "dy") table ≡ Some class.dy
  pub min : AreSame (min_in table) (Some class.min)
  pub max : AreSame (max_in table) (Some class.max)
  pub margin : margin_for version table ≡ Some class.margin
