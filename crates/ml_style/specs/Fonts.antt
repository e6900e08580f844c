-- Fonts by their names.
use Rattle.std.specs.Prelude.{◌≡◌, ℕ, List, [], ◌∷◌, map, find, Option, Some, None, IsSome, if◌then◌else◌}
use Rattle.std.specs.Option.{option_map}
use Rattle.std.specs.Str.{bytes_eq}
use Rattle.std.specs.Ordering.{nat_cmp, is_lt}
use Rattle.std.specs.Cmp.Lexicographic.{slice_cmp}
use Rattle.std.specs.List.Sorted.{IsStrictlySortedBy, IsStrictlySortedBy-prop}
use Rattle.toml.specs.Data.{Members, no_members, member}
use Rattle.ml_style.specs.FontTable.{is_font, IsFontOf}
use Rattle.ml_style.specs.declared.fault.StyleFault.{StyleFault}
use Rattle.ml_style.specs.declared.fault.StyleFault.TheVariants.{BadFont}
use Rattle.ml_style.specs.declared.class.Class.{Class}
use Rattle.ml_style.specs.declared.font.Font.{Font}
use Rattle.ml_style.specs.declared.fonts.NamedFont.{NamedFont}

-- the names of fonts
abbrev pub names_of : List NamedFont → List (List ℕ)
names_of fonts = map (λ f. f.name) fonts

-- the font of a name
abbrev pub font_named : List NamedFont → List ℕ → Option Font
font_named fonts name = option_map (λ f. f.font) (find (λ f. bytes_eq f.name name) fonts)

-- fonts in byte order of their names, each name once
abbrev pub AreAscending : List NamedFont → Type 0
AreAscending fonts = IsStrictlySortedBy (slice_cmp nat_cmp) (names_of fonts)

-- it holds in at most one way
pub AreAscending-prop : (fonts : List NamedFont) → IsProp (AreAscending fonts)
AreAscending-prop fonts = IsStrictlySortedBy-prop (slice_cmp nat_cmp) (names_of fonts)

-- the font of a class is one of the fonts
abbrev pub HasFont : List NamedFont → Class → Type 0
HasFont fonts class = IsSome (font_named fonts class.font)

-- the names in a table of fonts that stand for none
abbrev pub bad_names : Members → List (List ℕ)
bad_names no_members = []
bad_names (member name font rest) = if is_font font then bad_names rest else (name ∷ bad_names rest)

-- a text, or another where that comes before it in byte order
abbrev pub lesser : List ℕ → Option (List ℕ) → List ℕ
lesser text None = text
lesser text (Some other) = if is_lt (slice_cmp nat_cmp other text) then other else text

-- the first of some texts in byte order
abbrev pub least : List (List ℕ) → Option (List ℕ)
least [] = None
least (text ∷ texts) = Some (lesser text (least texts))

-- the fault of a name, if there is one
abbrev pub fault_of : Option (List ℕ) → List StyleFault
fault_of None = []
fault_of (Some name) = BadFont name ∷ []

-- the fault of a table of fonts: the first name in byte order that stands for none
abbrev pub font_faults : Members → List StyleFault
font_faults fonts = fault_of (least (bad_names fonts))

-- the names that a table of fonts has
abbrev pub keys : Members → List (List ℕ)
keys no_members = []
keys (member name font rest) = name ∷ keys rest

-- the fonts that a table of them writes, one each
abbrev pub AreFonts : Members → List NamedFont → Type 0
AreFonts no_members [] = Unit {0}
AreFonts (member name value rest) (f ∷ fonts) = (f.name ≡ name) × IsFontOf value f.font × AreFonts rest fonts
AreFonts _ _ = ⊥
