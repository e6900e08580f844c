-- The class that applies to a feature has the kind of its shape.
use Rattle.std.proofs.Common.{◌≡◌, true, false, Option, Some, refl, sym, ap, ◌∙◌, subst}
use Rattle.std.specs.Prelude.{position, option_and_then}
use Rattle.std.proofs.lemmas.Option.{get_or_from_slice_get}
use Rattle.std.proofs.lemmas.Bool.{and_parts}
use Rattle.std.proofs.lemmas.List.Quantifiers.{position-Some}
use Rattle.ml_ratio.specs.declared.feature.Feature.{Feature}
use Rattle.ml_ratio.specs.declared.geometry.Geometry.{Geometry}
use Rattle.ml_style.specs.declared.class.Class.{Class}
use Rattle.ml_style.specs.declared.class.Kind.{Kind}
use Rattle.ml_style.specs.declared.class.Kind.TheVariants.{PointKind, LineKind, AreaKind}
use Rattle.ml_style.specs.declared.style.Style.{Style}
use Rattle.ml_style.specs.Matching.{kind_of, same_kind, meets, applies}
use Rattle.ml_label.specs.Labelling.{IsClassOf}

one_kind : (a b : Kind) → same_kind a b ≡ true → b ≡ a
one_kind PointKind PointKind h = refl
one_kind PointKind LineKind h = absurd (let f : false ≡ true = h in cc)
one_kind PointKind AreaKind h = absurd (let f : false ≡ true = h in cc)
one_kind LineKind PointKind h = absurd (let f : false ≡ true = h in cc)
one_kind LineKind LineKind h = refl
one_kind LineKind AreaKind h = absurd (let f : false ≡ true = h in cc)
one_kind AreaKind PointKind h = absurd (let f : false ≡ true = h in cc)
one_kind AreaKind LineKind h = absurd (let f : false ≡ true = h in cc)
one_kind AreaKind AreaKind h = refl

-- the class of a feature with a shape
pub kind_fits : (style : Style) (feature : Feature) (shape : Geometry) (class : Class) → feature.geometry ≡ Some shape → IsClassOf style feature class → kind_of shape ≡ class.kind
kind_fits style feature shape class shaped is =
    let there : position (applies (kind_of shape) feature.props) style.classes ≡ Some is.0 =
    ap (λ (g : Option Geometry). option_and_then (λ (s : Geometry). position (applies (kind_of s) feature.props) style.classes) g) (sym shaped) ∙ is.1 in
    let found = position-Some (applies (kind_of shape) feature.props) style.classes is.0 class there in
    let same = get_or_from_slice_get style.classes is.0 class class is.2 in
    let fit : applies (kind_of shape) feature.props class ≡ true = subst (λ (x : Class). applies (kind_of shape) feature.props x ≡ true) same found.1 in
    one_kind class.kind (kind_of shape) (and_parts (same_kind class.kind (kind_of shape)) (meets class.rule feature.props) fit).0
