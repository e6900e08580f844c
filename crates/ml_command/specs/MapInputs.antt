-- Styles and maps as inputs of a command.
use Rattle.std.specs.Prelude.{◌≡◌, ℕ, ◌<◌, ◌≤◌, ◌++◌, List, length, Option, codes, decimal, ◌⊎◌}
use Rattle.ml_ratio.specs.Limits.{most_labels}
use Rattle.ml_io.specs.Files.{FileSet, Seen, IsLoaded}
use Rattle.ml_ratio.specs.declared.feature.Feature.{Feature}
use Rattle.ml_geojson.specs.Map.{IsMap, IsMapFault}
use Rattle.ml_geojson.specs.declared.fault.GeoFault.{GeoFault}
use Rattle.ml_geojson.specs.declared.fault.GeoFault.TheVariants as map_fault
use Rattle.ml_style.specs.Answer as style_answer
use Rattle.ml_style.specs.StyleTable.{IsStyle}
use Rattle.ml_style.specs.declared.fault.StyleFault.{StyleFault}
use Rattle.ml_style.specs.declared.fault.StyleFault.TheVariants.{NotToml, Version, BadFont, BadClass, UnknownFont, EmptyRange, Memory}
use Rattle.ml_style.specs.declared.style.Style.{Style}
use Rattle.ml_command.specs.Inputs.{most_bytes, IsNoLine, IsReadStop}
use Rattle.ml_command.specs.declared.stop.Stop.{Stop}
use Rattle.ml_command.specs.declared.stop.Stop.TheVariants as stop

-- the named file is this style
abbrev pub HasStyle : Option FileSet → List ℕ → Style → Type 0
HasStyle told name style = (bytes : List ℕ) × IsLoaded told name most_bytes bytes × IsStyle bytes style

-- the line that says why a style is refused; there is none for out of memory
abbrev pub IsStyleLine : StyleFault → List ℕ → Type 0
IsStyleLine NotToml line = line ≡ codes "style refused: 1 NotToml\n"
IsStyleLine Version line = line ≡ codes "style refused: 2 Version\n"
IsStyleLine (BadFont name) line = line ≡ codes "style refused: 3 BadFont " ++ (name ++ codes "\n")
IsStyleLine (BadClass k field) line = line ≡ codes "style refused: 4 BadClass " ++ (decimal k ++ (codes " " ++ (field ++ codes "\n")))
IsStyleLine (UnknownFont k) line = line ≡ codes "style refused: 5 UnknownFont " ++ (decimal k ++ codes "\n")
IsStyleLine (EmptyRange k) line = line ≡ codes "style refused: 6 EmptyRange " ++ (decimal k ++ codes "\n")
IsStyleLine Memory line = ⊥

-- the stop tells a style's fault by its line, or out of memory
abbrev pub IsStyleRefusal : StyleFault → Stop → Type 0
IsStyleRefusal fault (stop.StyleRefused line) = IsStyleLine fault line
IsStyleRefusal fault (stop.InputRefused line) = ⊥
IsStyleRefusal fault stop.FileFault = ⊥
IsStyleRefusal fault stop.TooLong = ⊥
IsStyleRefusal fault stop.Memory = Unit {0}

-- the named file is no style, as the line says
abbrev pub IsNoStyle : Option FileSet → List ℕ → List ℕ → Type 0
IsNoStyle told name line =
    (bytes : List ℕ) × (fault : StyleFault) × IsLoaded told name most_bytes bytes × style_answer.IsRefusal bytes fault × IsStyleLine fault line

-- why the named style was not read
abbrev pub IsStyleStop : Seen → List ℕ → Stop → Type 0
IsStyleStop seen name s = IsReadStop (IsNoStyle seen.told name) IsNoLine seen name s

-- the named file is a map of these features, which are not too many
abbrev pub HasMap : Option FileSet → List ℕ → List Feature → Type 0
HasMap told name features =
    (bytes : List ℕ) × IsLoaded told name most_bytes bytes × IsMap bytes features × (length features ≤ most_labels)

-- the line that says why a map is refused; there is none for out of memory
abbrev pub IsMapLine : GeoFault → List ℕ → Type 0
IsMapLine (map_fault.NotJson at) line = line ≡ codes "map refused: 1 NotJson " ++ (decimal at ++ codes "\n")
IsMapLine (map_fault.Deep at) line = line ≡ codes "map refused: 2 Deep " ++ (decimal at ++ codes "\n")
IsMapLine map_fault.NotCollection line = line ≡ codes "map refused: 3 NotCollection\n"
IsMapLine (map_fault.NotFeature k) line = line ≡ codes "map refused: 4 NotFeature " ++ (decimal k ++ codes "\n")
IsMapLine (map_fault.BadGeometry k) line = line ≡ codes "map refused: 5 BadGeometry " ++ (decimal k ++ codes "\n")
IsMapLine (map_fault.OutOfRange k) line = line ≡ codes "map refused: 6 OutOfRange " ++ (decimal k ++ codes "\n")
IsMapLine (map_fault.ShortRing k) line = line ≡ codes "map refused: 7 ShortRing " ++ (decimal k ++ codes "\n")
IsMapLine map_fault.NoId line = line ≡ codes "map refused: 8 NoId\n"
IsMapLine map_fault.Memory line = ⊥

-- the line that says that a map has too many features
abbrev pub IsFullLine : List ℕ → Type 0
IsFullLine line = line ≡ codes "map refused: 9 Full\n"

-- the named file is no map, as the line says
abbrev pub IsFaultyMap : Option FileSet → List ℕ → List ℕ → Type 0
IsFaultyMap told name line =
    (bytes : List ℕ) × (fault : GeoFault) × IsLoaded told name most_bytes bytes × IsMapFault bytes fault × IsMapLine fault line

-- the named file is a map of too many features, as the line says
abbrev pub IsFullMap : Option FileSet → List ℕ → List ℕ → Type 0
IsFullMap told name line =
    (bytes : List ℕ) × (features : List Feature) × IsLoaded told name most_bytes bytes × IsMap bytes features × (most_labels < length features) × IsFullLine line

-- the named map is refused, as the line says
abbrev pub IsNoMap : Option FileSet → List ℕ → List ℕ → Type 0
IsNoMap told name line = IsFaultyMap told name line ⊎ IsFullMap told name line

-- why the named map was not read
abbrev pub IsMapStop : Seen → List ℕ → Stop → Type 0
IsMapStop seen name s = IsReadStop IsNoLine (IsNoMap seen.told name) seen name s

-- why what is asked of a map under a style was not answered: the style was not read, or it was and the map was not
abbrev pub IsMapAnswerStop : Seen → List ℕ → List ℕ → Stop → Type 0
IsMapAnswerStop seen style map s =
    IsStyleStop seen style s ⊎ ((classes : Style) × HasStyle seen.told style classes × IsMapStop seen map s)
