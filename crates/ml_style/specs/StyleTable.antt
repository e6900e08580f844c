-- A style from the TOML table that writes it.
use Rattle.std.specs.Prelude.{◌≡◌, ℕ, List, [], ◌∷◌, ◌++◌, Option, Some, None, unwrap_or, codes}
use Rattle.toml.specs.Data.{Data, table, array, Members, no_members, Items, no_items, get_member}
use Rattle.ml_style.specs.Toml.{ReadsToml, count_at, text_at}
use Rattle.ml_style.specs.Faults.{first}
use Rattle.ml_style.specs.Fonts.{font_faults, keys, AreFonts}
use Rattle.ml_style.specs.ClassFaults.{classes_faults, AreClasses}
use Rattle.ml_style.specs.declared.fault.StyleFault.{StyleFault}
use Rattle.ml_style.specs.declared.fault.StyleFault.TheVariants.{Version, BadClass}
use Rattle.ml_style.specs.declared.style.Style.{Style}

-- the version of a style: 1 or 2
abbrev pub version_in : Members → Option ℕ
version_in style = count_at (codes "version") 1 2 style

-- the table that stands somewhere; what is no table counts as an empty one
abbrev pub table_from : Option Data → Members
table_from (Some (table members)) = members
table_from _ = no_members

-- the fonts of a style
abbrev pub fonts_in : Members → Members
fonts_in style = table_from (get_member (codes "fonts") style)

-- the faults of what stands for the classes: nothing, or a list of them
abbrev pub classes_faults_from : ℕ → List (List ℕ) → Option Data → List StyleFault
classes_faults_from version names None = []
classes_faults_from version names (Some (array classes)) = classes_faults version names 0 classes
classes_faults_from version names (Some _) = BadClass 0 (codes "class") ∷ []

-- the faults of the classes of a style of this version
abbrev pub classes_faults_in : ℕ → List (List ℕ) → Members → List StyleFault
classes_faults_in version names style = classes_faults_from version names (get_member (codes "class") style)

-- the list of classes that stands somewhere
abbrev pub items_from : Option Data → Items
items_from (Some (array classes)) = classes
items_from _ = no_items

-- the list of classes of a style
abbrev pub items_in : Members → Items
items_in style = items_from (get_member (codes "class") style)

-- the faults of a style of this version, if it is one
abbrev pub faults_of : Option ℕ → Members → List StyleFault
faults_of None style = Version ∷ []
faults_of (Some version) style = font_faults (fonts_in style) ++ classes_faults_in version (keys (fonts_in style)) style

-- the faults of a style in their order: the version, the fonts by their names, and the classes one by one
abbrev pub style_faults : Members → List StyleFault
style_faults style = faults_of (version_in style) style

-- the key that a style names for a purpose, or the purpose itself
abbrev pub key_for : List ℕ → Members → List ℕ
key_for purpose style = unwrap_or (text_at purpose style) purpose

-- the style that a table writes
pub record IsStyleIn (table : Members) (style : Style) : Type 0 where
  pub version : ℕ
  pub version_is : version_in table ≡ Some version
  pub name_key : style.name_key ≡ key_for (codes "name") table
  pub rank_key : style.rank_key ≡ key_for (codes "rank") table
  pub fonts : AreFonts (fonts_in table) style.fonts
  pub classes : AreClasses version (items_in table) style.classes

-- the bytes are a TOML text without faults that writes this style
abbrev pub IsStyle : List ℕ → Style → Type 0
IsStyle bytes style = (table : Members) × ReadsToml bytes table × (style_faults table ≡ []) × IsStyleIn table style

-- the bytes are a TOML text without faults
abbrev pub IsFaultless : List ℕ → Type 0
IsFaultless bytes = (table : Members) × ReadsToml bytes table × (style_faults table ≡ [])

-- the bytes are a TOML text, and this is its first fault
abbrev pub IsFirstFault : List ℕ → StyleFault → Type 0
IsFirstFault bytes fault = (table : Members) × ReadsToml bytes table × (first (style_faults table) ≡ Some fault)
