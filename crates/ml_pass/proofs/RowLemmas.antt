-- What the fields of a line write is one label at most, and lists of boxes are read place by place.
use Rattle.std.proofs.Common.{◌≡◌, ℕ, zero, suc, ◌-◌, ◌^◌, ◌<◌, ◌≤◌, ℤ, List, [], ◌∷◌, ◌++◌, length, get_or, map, Option, Some, None, Bor, arith, lit<, refl, ap, ◌∙◌, sym, pos, neg_ℤ, w64}
use Rattle.std.specs.Prelude.{MatchOption, replicate, FitsSigned, ◌==◌, Bool, true, false}
use Rattle.std.specs.Option.{option_map}
use Rattle.std.proofs.lemmas.Int.{ints}
use Rattle.std.specs.List.{AllZip}
use Rattle.std.proofs.lemmas.Slice.Zip.{AllZip-long}
use Rattle.ml_ratio.specs.Fraction.{Fraction, value_of, IsLess, IsAtMost, IsSame}
use Rattle.ml_ratio.specs.Lines.{parts}
use Rattle.ml_ratio.specs.Number.{numeral, whole_number}
use Rattle.ml_ratio.proofs.lemmas.Numerals.{numeral_small}
use Rattle.ml_ratio.proofs.lemmas.Numerals.{ratio_same}
use Rattle.ml_ratio.specs.Ratio.{ReadsRatio}
use Rattle.ml_ratio.specs.declared.ratio.Ratio.{Ratio}
use Rattle.ml_ratio.proofs.lemmas.Fractions.{less_at_most, at_most_less, at_most_trans}
use Rattle.ml_cone.specs.Label.{AreLabelParts, IsLabelOf}
use Rattle.ml_cone.specs.declared.label.BoxPx.{BoxPx}
use Rattle.ml_cone.specs.declared.label.Label.{Label}
use Rattle.ml_cone.specs.declared.order.Order.{Order}
use Rattle.ml_pass.specs.Row.{IsId, WritesBox, ReadsBox, WritesLabel, IsLabelWritten}

-- a list of four
pub four_parts : (items : List (Bor (List ℕ))) (d : Bor (List ℕ)) → 4 ≤ length items → length items < 5 →
    map (λ part. part.now) items ≡ (get_or items 0 d).now ∷ (get_or items 1 d).now ∷ (get_or items 2 d).now ∷ (get_or items 3 d).now ∷ []
four_parts (a ∷ b ∷ c ∷ e ∷ []) d h k = refl
four_parts [] d h k = absurd (omega arith)
four_parts (a ∷ []) d h k = absurd (omega arith)
four_parts (a ∷ b ∷ []) d h k = absurd (omega arith)
four_parts (a ∷ b ∷ c ∷ []) d h k = absurd (omega arith)
four_parts (a ∷ b ∷ c ∷ e ∷ f ∷ items) d h k = absurd (omega arith)

-- the box that the four parts of a text write is the one that the text writes
pub box_from : (text l b r t : List ℕ) (o : Option BoxPx) → parts 44 text ≡ l ∷ b ∷ r ∷ t ∷ [] →
    MatchOption o ((p : BoxPx) → ¬ (WritesBox l b r t p)) (λ p. WritesBox l b r t p) → MatchOption o ((p : BoxPx) → ¬ (ReadsBox text p)) (λ p. ReadsBox text p)
box_from text l b r t None split h = λ p reads.
    let same : reads.l ∷ reads.b ∷ reads.r ∷ reads.t ∷ [] ≡ l ∷ b ∷ r ∷ t ∷ [] = sym reads.split ∙ split in
    let el : reads.l ≡ l = cc in
    let eb : reads.b ≡ b = cc in
    let er : reads.r ≡ r = cc in
    let et : reads.t ≡ t = cc in
    let w = reads.numbers in
    h p (record {
      left = ap whole_number (sym el) ∙ w.left;
      bottom = ap whole_number (sym eb) ∙ w.bottom;
      right = ap whole_number (sym er) ∙ w.right;
      top = ap whole_number (sym et) ∙ w.top;
      good = w.good;
    })
box_from text l b r t (Some p) split h = record { l = l; b = b; r = r; t = t; split = split; numbers = h }

-- a text writes one box at most
pub box_unique : (text : List ℕ) (p q : BoxPx) → ReadsBox text p → ReadsBox text q → p ≡ q
box_unique text p q one two =
    let same : one.l ∷ one.b ∷ one.r ∷ one.t ∷ [] ≡ two.l ∷ two.b ∷ two.r ∷ two.t ∷ [] = sym one.split ∙ two.split in
    let el : one.l ≡ two.l = cc in
    let eb : one.b ≡ two.b = cc in
    let er : one.r ≡ two.r = cc in
    let et : one.t ≡ two.t = cc in
    let v = one.numbers in
    let w = two.numbers in
    let fl : Some p.l ≡ Some q.l = sym v.left ∙ ap whole_number el ∙ w.left in
    let fb : Some p.b ≡ Some q.b = sym v.bottom ∙ ap whole_number eb ∙ w.bottom in
    let fr : Some p.r ≡ Some q.r = sym v.right ∙ ap whole_number er ∙ w.right in
    let ft : Some p.t ≡ Some q.t = sym v.top ∙ ap whole_number et ∙ w.top in
    let gl : p.l ≡ q.l = cc in
    let gb : p.b ≡ q.b = cc in
    let gr : p.r ≡ q.r = cc in
    let gt : p.t ≡ q.t = cc in
    ap (λ (u : ℤ × ℤ × ℤ × ℤ). let box : BoxPx = record { l = u.0; b = u.1; r = u.2; t = u.3 } in box) (rw (gl, gb, gr, gt) refl)

module _ {A B : Type 0} (R : A → B → Type 0) where
  -- where two lists match place by place, they still do with a matching pair behind them
  pub zip_push : (xs : List A) (ys : List B) (x : A) (y : B) → AllZip R xs ys → R x y → AllZip R (xs ++ x ∷ []) (ys ++ y ∷ [])
  zip_push [] [] x y h k = (k, tt)
  zip_push [] (b ∷ ys) x y h k = absurd h
  zip_push (a ∷ xs) [] x y h k = absurd h
  zip_push (a ∷ xs) (b ∷ ys) x y h k = (h.0, zip_push xs ys x y h.1 k)

  -- where two lists match place by place, what stands at a place of the one matches what stands there in the other
  pub zip_at : (xs : List A) (ys : List B) (i : ℕ) (d : A) (e : B) → i < length xs → AllZip R xs ys → R (get_or xs i d) (get_or ys i e)
  zip_at [] ys i d e lt h = absurd (omega arith)
  zip_at (a ∷ xs) [] i d e lt h = absurd h
  zip_at (a ∷ xs) (b ∷ ys) zero d e lt h = h.0
  zip_at (a ∷ xs) (b ∷ ys) (suc i) d e lt h = zip_at xs ys i d e (omega arith) h.1

  -- where each element matches one thing at most, a list matches one list at most
  pub zip_unique : ((x : A) (y z : B) → R x y → R x z → y ≡ z) → (xs : List A) (ys zs : List B) → AllZip R xs ys → AllZip R xs zs → ys ≡ zs
  zip_unique one [] [] [] h k = refl
  zip_unique one [] [] (z ∷ zs) h k = absurd k
  zip_unique one [] (y ∷ ys) zs h k = absurd h
  zip_unique one (x ∷ xs) [] zs h k = absurd h
  zip_unique one (x ∷ xs) (y ∷ ys) [] h k = absurd k
  zip_unique one (x ∷ xs) (y ∷ ys) (z ∷ zs) h k =
      let first : y ≡ z = one x y z h.0 k.0 in
      let rest : ys ≡ zs = zip_unique one xs ys zs h.1 k.1 in
      ap (λ (b : B). b ∷ ys) first ∙ ap (λ (bs : List B). z ∷ bs) rest

-- a whole number that a text writes fits 64 bits
minus_fits : (o : Option ℕ) (z : ℤ) → ((n : ℕ) → o ≡ Some n → n < 10 ^ 10) → option_map (λ n. neg_ℤ (pos n)) o ≡ Some z → FitsSigned w64 z
minus_fits None z small e = absurd (cc)
minus_fits (Some n) z small e =
    let f : neg_ℤ (pos n) ≡ z = cc in
    let s : n < 10 ^ 10 = small n refl in
    omega (arith, ints)

plain_fits : (o : Option ℕ) (z : ℤ) → ((n : ℕ) → o ≡ Some n → n < 10 ^ 10) → option_map pos o ≡ Some z → FitsSigned w64 z
plain_fits None z small e = absurd (cc)
plain_fits (Some n) z small e =
    let f : pos n ≡ z = cc in
    let s : n < 10 ^ 10 = small n refl in
    omega (arith, ints)

-- a whole number that a text writes fits 64 bits, with its sign
pub whole_fits : (text : List ℕ) (z : ℤ) → whole_number text ≡ Some z → FitsSigned w64 z
unfolding whole_number
whole_fits [] z e = absurd (cc)
whole_fits (byte ∷ rest) z e = by_minus (byte == 45) refl
  where
    by_minus : (b : Bool) → (byte == 45) ≡ b → FitsSigned w64 z
    by_minus true same = minus_fits (numeral rest) z (numeral_small rest) (rw same at e)
    by_minus false same = plain_fits (numeral (byte ∷ rest)) z (numeral_small (byte ∷ rest)) (rw same at e)

-- 2^28
abbrev top : Fraction
top = record { num = 2 ^ 28; den = 1; positive = lit< tt }

module _ (id x y min max : List ℕ) (boxes : List (List ℕ)) (place : ℕ) (order : Order) (xv yv : ℤ) (bs : List BoxPx)
    (pieces : List (List ℕ)) (minv maxv : Ratio) (good : IsId id) (class_is : order.class ≡ place) (rank_is : order.rank ≡ 0)
    (id_is : order.id ≡ id) (x_is : whole_number x ≡ Some xv) (y_is : whole_number y ≡ Some yv) (min_is : ReadsRatio min (Some minv))
    (max_is : ReadsRatio max (Some maxv)) (boxes_are : AllZip ReadsBox boxes bs) (pieces_are : pieces ≡ id ∷ replicate (length bs - 1) []) where
  parts_of_label : (label : Label) → WritesLabel id x y min max boxes place label → AreLabelParts xv yv bs pieces minv maxv 0
  parts_of_label label w =
      let fx : Some xv ≡ Some label.x = sym x_is ∙ w.x_is in
      let fy : Some yv ≡ Some label.y = sym y_is ∙ w.y_is in
      let ex : xv ≡ label.x = cc in
      let ey : yv ≡ label.y = cc in
      let eb : bs ≡ label.boxes = zip_unique ReadsBox box_unique boxes bs label.boxes boxes_are w.boxes_are in
      let long : length bs ≡ length boxes = AllZip-long ReadsBox boxes bs boxes_are in
      let ep : pieces ≡ label.pieces = (pieces_are ∙ ap (λ (n : ℕ). id ∷ replicate (n - 1) []) long ∙ sym w.pieces_are) in
      let emin : IsSame (value_of minv) (value_of label.min) = ratio_same min minv label.min min_is w.min_is in
      let emax : IsSame (value_of maxv) (value_of label.max) = ratio_same max maxv label.max max_is w.max_is in
      let range : IsLess (value_of label.min) (value_of label.max) = label.range in
      let low : IsAtMost (value_of label.max) top = (let h = label.low_max in omega arith) in
      record {
        world_x = rw ex label.world_x;
        world_y = rw ey label.world_y;
        some_box = rw eb label.some_box;
        few_boxes = rw eb label.few_boxes;
        good_boxes = rw eb label.good_boxes;
        one_piece_each = rw (eb, ep) label.one_piece_each;
        range = less_at_most (value_of minv) (value_of label.max) (value_of maxv) (at_most_less (value_of minv) (value_of label.min) (value_of label.max) (omega arith) range) (omega arith);
        low_max =
            let most : IsAtMost (value_of maxv) top = at_most_trans (value_of maxv) (value_of label.max) top (omega arith) low in
            omega arith;
        low_margin = omega arith;
      }

  -- the label that the fields' values make is the one that the fields write; where they make none, the fields write none
  pub label_from : (o : Option Label) → IsLabelOf order xv yv bs pieces minv maxv 0 o → IsLabelWritten id x y min max boxes place o
  label_from None h = λ label w. h (parts_of_label label w)
  label_from (Some label) h =
      let has = h.1 in
      let long : length bs ≡ length boxes = AllZip-long ReadsBox boxes bs boxes_are in
      record {
        good_id = good;
        class_is = ap (λ (o : Order). o.class) has.order_is ∙ class_is;
        rank_is = ap (λ (o : Order). o.rank) has.order_is ∙ rank_is;
        id_is = ap (λ (o : Order). o.id) has.order_is ∙ id_is;
        x_is = x_is ∙ ap Some (sym has.x_is);
        y_is = y_is ∙ ap Some (sym has.y_is);
        min_is = rw has.min_is min_is;
        max_is = rw has.max_is max_is;
        margin_is = has.margin_is;
        boxes_are = rw has.boxes_are boxes_are;
        pieces_are = has.pieces_are ∙ pieces_are ∙ ap (λ (n : ℕ). id ∷ replicate (n - 1) []) long;
      }
