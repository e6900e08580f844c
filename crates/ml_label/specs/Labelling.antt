-- The label of a feature, or the first reason why it has none.
use Rattle.std.specs.Prelude.{◌≡◌, ℕ, List, slice_get, Some, None, Result, Ok, Err}
use Rattle.ml_ratio.specs.declared.feature.Feature.{Feature}
use Rattle.ml_ratio.specs.declared.geometry.Geometry.{Geometry}
use Rattle.ml_cone.specs.declared.label.Label.{Label}
use Rattle.ml_style.specs.declared.class.Class.{Class}
use Rattle.ml_style.specs.declared.font.Font.{Font}
use Rattle.ml_style.specs.declared.style.Style.{Style}
use Rattle.ml_style.specs.Matching.{first_match}
use Rattle.ml_style.specs.Fonts.{font_named}
use Rattle.ml_label.specs.Name.{label_name, rank_of}
use Rattle.ml_label.specs.Placing.{Placing, IsPlacing, HasNoPlace}
use Rattle.ml_label.specs.declared.reason.Reason.{Reason}
use Rattle.ml_label.specs.declared.reason.Reason.TheVariants.{NoGeometry, NoClass, NoName, TooWide}

-- the first class of the style that applies to the feature
abbrev pub IsClassOf : Style → Feature → Class → Type 0
IsClassOf style feature class = (place : ℕ) × (first_match style feature ≡ Some place) × (slice_get style.classes place ≡ Some class)

-- a feature with a shape, its class, that class's font, and a name
pub record IsNamed (style : Style) (feature : Feature) (shape : Geometry) (class : Class) (font : Font) (text : List ℕ) : Type 0 where
  pub shape_is : feature.geometry ≡ Some shape
  pub class_is : IsClassOf style feature class
  pub font_is : font_named style.fonts class.font ≡ Some font
  pub text_is : label_name style feature ≡ Some text

-- the order of a feature's label, the scales at which it may be shown and its margin are those of its class
pub record IsOrdered (style : Style) (feature : Feature) (class : Class) (label : Label) : Type 0 where
  pub class_is : label.order.class ≡ class.priority
  pub rank_is : label.order.rank ≡ rank_of style feature
  pub id_is : label.order.id ≡ feature.id
  pub min_is : label.min ≡ class.min
  pub max_is : label.max ≡ class.max
  pub margin_is : label.margin ≡ class.margin

-- where a label stands, and its boxes and pieces
pub record IsPutAt (label : Label) (placing : Placing) : Type 0 where
  pub x_is : label.x ≡ placing.anchor.x
  pub y_is : label.y ≡ placing.anchor.y
  pub boxes_are : label.boxes ≡ placing.boxes
  pub pieces_are : label.pieces ≡ placing.pieces

-- the label of a feature
pub record IsFeatureLabel (style : Style) (feature : Feature) (label : Label) : Type 0 where
  pub shape : Geometry
  pub class : Class
  pub font : Font
  pub text : List ℕ
  pub named : IsNamed style feature shape class font text
  pub ordered : IsOrdered style feature class label
  pub placing : Placing
  pub placed : IsPlacing font class shape text placing
  pub put : IsPutAt label placing

-- a feature with a shape, to which no class applies
pub record HasNoClass (style : Style) (feature : Feature) : Type 0 where
  pub shape : Geometry
  pub shape_is : feature.geometry ≡ Some shape
  pub none_applies : first_match style feature ≡ None

-- a feature with a class and without a name
pub record HasNoName (style : Style) (feature : Feature) : Type 0 where
  pub class : Class
  pub class_is : IsClassOf style feature class
  pub unnamed : label_name style feature ≡ None

-- a feature with a class and a name, whose label would be too wide
pub record IsTooWideLabel (style : Style) (feature : Feature) : Type 0 where
  pub shape : Geometry
  pub class : Class
  pub font : Font
  pub text : List ℕ
  pub named : IsNamed style feature shape class font text
  pub unplaced : HasNoPlace font class shape text

-- why a feature has no label
abbrev pub IsReason : Style → Feature → Reason → Type 0
IsReason style feature NoGeometry = feature.geometry ≡ None
IsReason style feature NoClass = HasNoClass style feature
IsReason style feature NoName = HasNoName style feature
IsReason style feature TooWide = IsTooWideLabel style feature

-- a feature has no label
abbrev pub IsUnlabelled : Style → Feature → Type 0
IsUnlabelled style feature = (reason : Reason) × IsReason style feature reason

-- the label of a feature, or why it has none
abbrev pub IsLabelling : Style → Feature → Result Label Reason → Type 0
IsLabelling style feature (Ok label) = IsFeatureLabel style feature label
IsLabelling style feature (Err reason) = IsReason style feature reason

-- two labels are the same in every part
pub record IsSameLabel (a b : Label) : Type 0 where
  pub order_is : a.order ≡ b.order
  pub x_is : a.x ≡ b.x
  pub y_is : a.y ≡ b.y
  pub boxes_are : a.boxes ≡ b.boxes
  pub pieces_are : a.pieces ≡ b.pieces
  pub min_is : a.min ≡ b.min
  pub max_is : a.max ≡ b.max
  pub margin_is : a.margin ≡ b.margin

-- two answers are the same: labels that are the same, or one reason
abbrev pub IsSameAnswer : Result Label Reason → Result Label Reason → Type 0
IsSameAnswer (Ok a) (Ok b) = IsSameLabel a b
IsSameAnswer (Err a) (Err b) = a ≡ b
IsSameAnswer (Ok a) (Err b) = ⊥
IsSameAnswer (Err a) (Ok b) = ⊥
