-- The class of a feature: the first that applies to it.
use Rattle.std.specs.Prelude.{ℕ, Bool, true, false, ◌&&◌, List, position, Option, Some, None, codes, option_and_then}
use Rattle.std.specs.List.{list_any}
use Rattle.std.specs.Str.{bytes_eq}
use Rattle.ml_ratio.specs.declared.feature.Prop.{Prop}
use Rattle.ml_ratio.specs.declared.feature.Scalar.{Scalar}
use Rattle.ml_ratio.specs.declared.feature.Scalar.TheVariants.{Null, Flag, Num, Str}
use Rattle.ml_ratio.specs.declared.feature.Feature.{Feature}
use Rattle.ml_ratio.specs.declared.geometry.Geometry.{Geometry}
use Rattle.ml_ratio.specs.declared.geometry.Geometry.TheVariants.{Point, MultiPoint, LineString, MultiLineString, Polygon, MultiPolygon}
use Rattle.ml_style.specs.declared.class.Kind.{Kind}
use Rattle.ml_style.specs.declared.class.Kind.TheVariants.{PointKind, LineKind, AreaKind}
use Rattle.ml_style.specs.declared.class.Class.{Class}
use Rattle.ml_style.specs.declared.style.Style.{Style}

-- the kind of a shape
abbrev pub kind_of : Geometry → Kind
kind_of (Point place) = PointKind
kind_of (MultiPoint places) = PointKind
kind_of (LineString line) = LineKind
kind_of (MultiLineString lines) = LineKind
kind_of (Polygon rings) = AreaKind
kind_of (MultiPolygon parts) = AreaKind

-- whether two kinds are the same
abbrev pub same_kind : Kind → Kind → Bool
same_kind PointKind PointKind = true
same_kind LineKind LineKind = true
same_kind AreaKind AreaKind = true
same_kind _ _ = false

-- the text of a property's value: null has none
abbrev pub text_of : Scalar → Option (List ℕ)
text_of Null = None
text_of (Flag true) = Some (codes "true")
text_of (Flag false) = Some (codes "false")
text_of (Num text) = Some text
text_of (Str text) = Some text

-- whether two texts are there and the same
abbrev pub same_text : Option (List ℕ) → Option (List ℕ) → Bool
same_text (Some a) (Some b) = bytes_eq a b
same_text _ _ = false

-- whether a property has the key of a rule and its text
abbrev pub matches : Prop → Prop → Bool
matches rule prop = bytes_eq prop.key rule.key && same_text (text_of prop.value) (text_of rule.value)

-- whether properties meet a rule: there is none, or one of them matches it
abbrev pub meets : Option Prop → List Prop → Bool
meets None props = true
meets (Some rule) props = list_any (matches rule) props

-- whether a class applies to features of this kind with these properties
abbrev pub applies : Kind → List Prop → Class → Bool
applies kind props class = same_kind class.kind kind && meets class.rule props

-- the place of the first class that applies to a feature: none where none does, or the feature has no shape
abbrev pub first_match : Style → Feature → Option ℕ
first_match style feature = option_and_then (λ shape. position (applies (kind_of shape) feature.props) style.classes) feature.geometry
