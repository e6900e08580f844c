-- The name and the rank of a feature.
use Rattle.std.specs.Prelude.{ℕ, List, find, Bool, ◌==◌, Option, Some, None, option_and_then, if◌then◌else◌}
use Rattle.std.specs.Option.{option_map}
use Rattle.std.specs.List.{list_all}
use Rattle.std.specs.Str.{bytes_eq}
use Rattle.ml_ratio.specs.declared.feature.Feature.{Feature}
use Rattle.ml_ratio.specs.declared.feature.Prop.{Prop}
use Rattle.ml_ratio.specs.declared.feature.Scalar.{Scalar}
use Rattle.ml_ratio.specs.declared.feature.Scalar.TheVariants.{Num, Str}
use Rattle.ml_json.specs.Decimal.{whole_of}
use Rattle.ml_style.specs.declared.style.Style.{Style}
use Rattle.ml_text.specs.Label.{label_text}

-- the value of the property with the key
abbrev pub property : List ℕ → List Prop → Option Scalar
property key props = option_map (λ p. p.value) (find (λ p. bytes_eq p.key key) props)

-- the text of a name: a string's, or a number's
abbrev pub name_in : Option Scalar → Option (List ℕ)
name_in (Some (Str text)) = Some text
name_in (Some (Num text)) = Some text
name_in value = None

-- whether a text is empty or has only spaces
abbrev pub is_blank : List ℕ → Bool
is_blank text = list_all (λ byte. byte == 32) text

-- the text, unless it is blank
abbrev pub unless_blank : List ℕ → Option (List ℕ)
unless_blank text = if is_blank text then None else Some text

-- the text of a feature's label: its name with spaces for what cannot be shown
abbrev pub label_name : Style → Feature → Option (List ℕ)
label_name style feature = option_and_then (λ name. unless_blank (label_text name)) (name_in (property style.name_key feature.props))

-- the whole part of a number, and 0 for anything else
abbrev pub rank_in : Option Scalar → ℕ
rank_in (Some (Num text)) = whole_of text
rank_in value = 0

-- the rank of a feature
abbrev pub rank_of : Style → Feature → ℕ
rank_of style feature = rank_in (property style.rank_key feature.props)
