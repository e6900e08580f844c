-- The data of the replies has no floats.
use Rattle.std.proofs.Common.{◌≡◌, ℕ, List, Option, None, Some, false, refl}
use Rattle.serde_json.specs.Written.{has_float}
use Rattle.ml_ratio.specs.declared.ratio.Ratio.{Ratio}
use Rattle.ml_cone.specs.declared.label.Label.{Label}
use Rattle.ml_geojson.specs.declared.fault.GeoFault.{GeoFault}
use Rattle.ml_geojson.specs.declared.fault.GeoFault.TheVariants as geo
use Rattle.ml_style.specs.declared.fault.StyleFault.{StyleFault}
use Rattle.ml_style.specs.declared.fault.StyleFault.TheVariants as style
use Rattle.ml_editor.specs.declared.fault.EditFault.{EditFault}
use Rattle.ml_editor.specs.declared.fault.EditFault.TheVariants as edit
use Rattle.ml_answer.specs.Fault.{geo_data, style_data, fault_data}
use Rattle.ml_answer.specs.Slot.{slot_data}

-- the data of a slot, which is written by the library
pub slot_no_float : (label : Label) (until : Ratio) (blocker : Option (List ℕ)) → has_float (slot_data label until blocker) ≡ false
slot_no_float label until None = refl
slot_no_float label until (Some id) = refl

-- the data of what is wrong with a feature, and with a style
geo_no_float : (fault : GeoFault) → has_float (geo_data fault) ≡ false
geo_no_float (geo.NotJson at) = refl
geo_no_float (geo.Deep at) = refl
geo_no_float geo.NotCollection = refl
geo_no_float (geo.NotFeature k) = refl
geo_no_float (geo.BadGeometry k) = refl
geo_no_float (geo.OutOfRange k) = refl
geo_no_float (geo.ShortRing k) = refl
geo_no_float geo.NoId = refl
geo_no_float geo.Memory = refl

style_no_float : (fault : StyleFault) → has_float (style_data fault) ≡ false
style_no_float style.NotToml = refl
style_no_float style.Version = refl
style_no_float (style.BadFont name) = refl
style_no_float (style.BadClass k field) = refl
style_no_float (style.UnknownFont k) = refl
style_no_float (style.EmptyRange k) = refl
style_no_float style.Memory = refl

-- the data of a refused edit, which is written by the library
pub fault_no_float : (fault : EditFault) → has_float (fault_data fault) ≡ false
fault_no_float (edit.RevMoved now) = refl
fault_no_float (edit.Geo fault) = geo_no_float fault
fault_no_float (edit.Style fault) = style_no_float fault
fault_no_float (edit.Duplicate id) = refl
fault_no_float (edit.Unknown id) = refl
fault_no_float edit.Full = refl
fault_no_float edit.RevEnd = refl
fault_no_float edit.Memory = refl
