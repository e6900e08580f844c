-- The data of a refused edit, and its text.
use Rattle.std.specs.Prelude.{ℕ, List, codes}
use Rattle.serde_json.specs.Data.{Data, unsigned, number, string, object, member, no_members}
use Rattle.serde_json.specs.Written.{compact_text}
use Rattle.ml_geojson.specs.declared.fault.GeoFault.{GeoFault}
use Rattle.ml_geojson.specs.declared.fault.GeoFault.TheVariants as geo
use Rattle.ml_style.specs.declared.fault.StyleFault.{StyleFault}
use Rattle.ml_style.specs.declared.fault.StyleFault.TheVariants as style
use Rattle.ml_editor.specs.declared.fault.EditFault.{EditFault}
use Rattle.ml_editor.specs.declared.fault.EditFault.TheVariants as edit

-- a fault by its name alone
abbrev pub error_data : List ℕ → Data
error_data name = object (member (codes "error") (string name) no_members)

-- a fault at a byte of the body
abbrev pub place_data : ℕ → List ℕ → Data
place_data at name =
    object (member (codes "at") (number (unsigned at))
    (member (codes "error") (string name) no_members))

-- a fault of the feature or the style class with a number
abbrev pub class_data : ℕ → List ℕ → Data
class_data k name =
    object (member (codes "class") (number (unsigned k))
    (member (codes "error") (string name) no_members))

-- a fault that tells an id
abbrev pub named_data : List ℕ → List ℕ → Data
named_data name id =
    object (member (codes "error") (string name)
    (member (codes "id") (string id) no_members))

-- what is wrong with a feature; one that no edit gives has its name alone
abbrev pub geo_data : GeoFault → Data
geo_data (geo.NotJson at) = place_data at (codes "NotJson")
geo_data (geo.Deep at) = place_data at (codes "Deep")
geo_data geo.NotCollection = error_data (codes "NotCollection")
geo_data (geo.NotFeature k) = error_data (codes "NotFeature")
geo_data (geo.BadGeometry k) = error_data (codes "BadGeometry")
geo_data (geo.OutOfRange k) = error_data (codes "OutOfRange")
geo_data (geo.ShortRing k) = error_data (codes "ShortRing")
geo_data geo.NoId = error_data (codes "NoId")
geo_data geo.Memory = error_data (codes "Memory")

-- what is wrong with a style
abbrev pub style_data : StyleFault → Data
style_data style.NotToml = error_data (codes "NotToml")
style_data style.Version = error_data (codes "Version")
style_data (style.BadFont name) =
    object (member (codes "error") (string (codes "BadFont"))
    (member (codes "font") (string name) no_members))
style_data (style.BadClass k field) =
    object (member (codes "class") (number (unsigned k))
    (member (codes "error") (string (codes "BadClass"))
    (member (codes "field") (string field) no_members)))
style_data (style.UnknownFont k) = class_data k (codes "UnknownFont")
style_data (style.EmptyRange k) = class_data k (codes "EmptyRange")
style_data style.Memory = error_data (codes "Memory")

-- why an edit is refused
abbrev pub fault_data : EditFault → Data
fault_data (edit.RevMoved now) =
    object (member (codes "error") (string (codes "RevMoved"))
    (member (codes "rev") (number (unsigned now)) no_members))
fault_data (edit.Geo fault) = geo_data fault
fault_data (edit.Style fault) = style_data fault
fault_data (edit.Duplicate id) = named_data (codes "Duplicate") id
fault_data (edit.Unknown id) = named_data (codes "Unknown") id
fault_data edit.Full = error_data (codes "Full")
fault_data edit.RevEnd = error_data (codes "RevEnd")
fault_data edit.Memory = error_data (codes "Memory")

-- the text of a refused edit, with no space
abbrev pub fault_text : EditFault → List ℕ
fault_text fault = compact_text (fault_data fault)
