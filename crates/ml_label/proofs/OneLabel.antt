-- A feature has one label, or one reason why it has none.
use Rattle.std.proofs.Common.{◌≡◌, ℕ, List, Option, Some, None, Result, Ok, Err, All, refl, sym, ap, ◌∙◌, subst}
use Rattle.std.specs.Prelude.{slice_get, position, option_and_then}
use Rattle.std.proofs.lemmas.Option.{same_Some}
use Rattle.ml_ratio.specs.Geometry.{IsGeometry, IsSomeGeometry}
use Rattle.ml_ratio.specs.declared.feature.Feature.{Feature}
use Rattle.ml_ratio.specs.declared.geometry.Geometry.{Geometry}
use Rattle.ml_cone.specs.Plane.{IsBox}
use Rattle.ml_cone.specs.declared.label.BoxPx.{BoxPx}
use Rattle.ml_cone.specs.declared.label.Label.{Label}
use Rattle.ml_cone.specs.declared.order.Order.{Order}
use Rattle.ml_style.specs.declared.class.Class.{Class}
use Rattle.ml_style.specs.declared.font.Font.{Font}
use Rattle.ml_style.specs.declared.style.Style.{Style}
use Rattle.ml_style.specs.Matching.{kind_of, applies, first_match}
use Rattle.ml_style.specs.Fonts.{font_named}
use Rattle.ml_label.specs.Placing.{IsPlacing, HasNoPlace}
use Rattle.ml_label.specs.Labelling.{IsClassOf, IsNamed, IsOrdered, IsFeatureLabel, IsReason, IsLabelling, IsSameLabel, IsSameAnswer}
use Rattle.ml_label.specs.declared.reason.Reason.{Reason}
use Rattle.ml_label.specs.declared.reason.Reason.TheVariants.{NoGeometry, NoClass, NoName, TooWide}
use Rattle.ml_label.proofs.OnePlacing.{PlaceLaws, one_placing, placing_or_none}

none_or_some : {X : Type 0} (o : Option X) (x : X) → o ≡ None → o ≡ Some x → ⊥
none_or_some o x e f = absurd (let g : None ≡ Some x = sym e ∙ f in cc)

same_order : (a b : Order) → a.class ≡ b.class → a.rank ≡ b.rank → a.id ≡ b.id → a ≡ b
same_order a b c r n = λ i. record { class = c i; rank = r i; id = n i }

module _ (style : Style) (feature : Feature) where
  -- the class of a feature is one
  one_class : (c d : Class) → IsClassOf style feature c → IsClassOf style feature d → c ≡ d
  one_class c d p q =
      let place = same_Some p.0 q.0 (sym p.1 ∙ q.1) in
      same_Some c d (sym p.2 ∙ (ap (λ (k : ℕ). slice_get style.classes k) place ∙ q.2))

  -- shape, class, font and name are each one: what holds of some holds of the others
  along_names : (s t : Geometry) (c d : Class) (f g : Font) (x y : List ℕ) (P : Geometry → Class → Font → List ℕ → Type 0) →
      IsNamed style feature s c f x → IsNamed style feature t d g y → P t d g y → P s c f x
  along_names s t c d f g x y P p q holds =
      let shape = same_Some t s (sym q.shape_is ∙ p.shape_is) in
      let class = one_class d c q.class_is p.class_is in
      let font = same_Some g f (sym q.font_is ∙ (ap (λ (k : Class). font_named style.fonts k.font) class ∙ p.font_is)) in
      let text = same_Some y x (sym q.text_is ∙ p.text_is) in
      subst (λ (z : Geometry). P z c f x) shape (subst (λ (z : Class). P t z f x) class (subst (λ (z : Font). P t d z x) font (subst (λ (z : List ℕ). P t d g z) text holds)))

  same_label : (laws : PlaceLaws) (a b : Label) → IsFeatureLabel style feature a → IsFeatureLabel style feature b → IsSameLabel a b
  same_label laws a b p q =
      let ordered : IsOrdered style feature p.class b = along_names p.shape q.shape p.class q.class p.font q.font p.text q.text (λ s c f x. IsOrdered style feature c b) p.named q.named q.ordered in
      let placed : IsPlacing p.font p.class p.shape p.text q.placing =
      along_names p.shape q.shape p.class q.class p.font q.font p.text q.text (λ s c f x. IsPlacing f c s x q.placing) p.named q.named q.placed in
      let shaped : IsGeometry p.shape = subst IsSomeGeometry p.named.shape_is feature.shaped in
      let same = one_placing laws p.font p.class p.shape p.text p.placing q.placing shaped p.placed placed in
      record {
        order_is = same_order a.order b.order (p.ordered.class_is ∙ sym ordered.class_is) (p.ordered.rank_is ∙ sym ordered.rank_is) (p.ordered.id_is ∙ sym ordered.id_is);
        x_is = p.put.x_is ∙ (same.x_is ∙ sym q.put.x_is);
        y_is = p.put.y_is ∙ (same.y_is ∙ sym q.put.y_is);
        boxes_are = p.put.boxes_are ∙ (same.boxes_are ∙ sym q.put.boxes_are);
        pieces_are = p.put.pieces_are ∙ (same.pieces_are ∙ sym q.put.pieces_are);
        min_is = p.ordered.min_is ∙ sym ordered.min_is;
        max_is = p.ordered.max_is ∙ sym ordered.max_is;
        margin_is = p.ordered.margin_is ∙ sym ordered.margin_is;
      }

  -- a feature without a shape has no class
  shape_or_none : (c : Class) → feature.geometry ≡ None → IsClassOf style feature c → ⊥
  shape_or_none c none is =
      let none_applies : first_match style feature ≡ None = ap (λ (g : Option Geometry). option_and_then (λ (s : Geometry). position (applies (kind_of s) feature.props) style.classes) g) none in
      none_or_some (first_match style feature) is.0 none_applies is.1

  -- the reason is one
  same_reason : (r s : Reason) → IsReason style feature r → IsReason style feature s → r ≡ s
  same_reason NoGeometry NoGeometry p q = refl
  same_reason NoGeometry NoClass p q = absurd (none_or_some _ _ p q.shape_is)
  same_reason NoGeometry NoName p q = absurd (shape_or_none q.class p q.class_is)
  same_reason NoGeometry TooWide p q = absurd (none_or_some _ _ p q.named.shape_is)
  same_reason NoClass NoGeometry p q = absurd (none_or_some _ _ q p.shape_is)
  same_reason NoClass NoClass p q = refl
  same_reason NoClass NoName p q = absurd (none_or_some _ _ p.none_applies q.class_is.1)
  same_reason NoClass TooWide p q = absurd (none_or_some _ _ p.none_applies q.named.class_is.1)
  same_reason NoName NoGeometry p q = absurd (shape_or_none p.class q p.class_is)
  same_reason NoName NoClass p q = absurd (none_or_some _ _ q.none_applies p.class_is.1)
  same_reason NoName NoName p q = refl
  same_reason NoName TooWide p q = absurd (none_or_some _ _ p.unnamed q.named.text_is)
  same_reason TooWide NoGeometry p q = absurd (none_or_some _ _ q p.named.shape_is)
  same_reason TooWide NoClass p q = absurd (none_or_some _ _ q.none_applies p.named.class_is.1)
  same_reason TooWide NoName p q = absurd (none_or_some _ _ q.unnamed p.named.text_is)
  same_reason TooWide TooWide p q = refl

  -- where there is a label, nothing says that there is none
  label_or_reason : (a : Label) (r : Reason) → IsFeatureLabel style feature a → IsReason style feature r → ⊥
  label_or_reason a NoGeometry p q = none_or_some _ _ q p.named.shape_is
  label_or_reason a NoClass p q = none_or_some _ _ q.none_applies p.named.class_is.1
  label_or_reason a NoName p q = none_or_some _ _ q.unnamed p.named.text_is
  label_or_reason a TooWide p q =
      let none : HasNoPlace p.font p.class p.shape p.text = along_names p.shape q.shape p.class q.class p.font q.font p.text q.text (λ s c f x. HasNoPlace f c s x) p.named q.named q.unplaced in
      let good : All (λ (d : BoxPx). IsBox d.l d.b d.r d.t) p.placing.boxes = subst (All (λ (d : BoxPx). IsBox d.l d.b d.r d.t)) p.put.boxes_are a.good_boxes in
      placing_or_none p.font p.class p.shape p.text p.placing p.placed good none

-- a feature has one label, or one reason why it has none
pub one_label : (laws : PlaceLaws) (style : Style) (feature : Feature) (a b : Result Label Reason) → IsLabelling style feature a → IsLabelling style feature b → IsSameAnswer a b
one_label laws style feature (Ok a) (Ok b) p q = same_label style feature laws a b p q
one_label laws style feature (Ok a) (Err s) p q = label_or_reason style feature a s p q
one_label laws style feature (Err r) (Ok b) p q = label_or_reason style feature b r q p
one_label laws style feature (Err r) (Err s) p q = same_reason style feature r s p q
