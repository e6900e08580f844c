-- What the words of a line say of the line.
use Rattle.std.proofs.Common.{Bor, get_or, map, take, drop, length-drop, ◌≡◌, ℕ, ◌-◌, ◌^◌, ◌<◌, ◌≤◌, ℤ, pos, List, [], ◌∷◌, length, Option, Some, None, arith, lit<, refl, sym, ap, subst, ◌∙◌}
use Rattle.std.specs.Prelude.{IsUtf8, replicate, Result, Ok, Err, IfOk}
use Rattle.std.specs.List.{AllZip}
use Rattle.std.proofs.lemmas.List.{length-map, take_all}
use Rattle.std.proofs.lemmas.Slice.Zip.{AllZip-long}
use Rattle.ml_ratio.specs.Fraction.{Fraction, value_of, IsLess, IsAtMost, IsSame}
use Rattle.ml_ratio.specs.Lines.{parts}
use Rattle.ml_ratio.specs.Number.{whole_number}
use Rattle.ml_ratio.specs.Ratio.{ReadsRatio}
use Rattle.ml_ratio.specs.declared.ratio.Ratio.{Ratio}
use Rattle.ml_ratio.proofs.lemmas.Fractions.{less_at_most, at_most_less, at_most_trans}
use Rattle.ml_ratio.proofs.lemmas.Numerals.{ratio_same}
use Rattle.ml_cone.specs.Label.{AreLabelParts, IsLabelOf}
use Rattle.ml_cone.specs.Places.{IsPlaceOf}
use Rattle.ml_cone.specs.Plane.{IsMargin}
use Rattle.ml_cone.specs.declared.label.BoxPx.{BoxPx}
use Rattle.ml_cone.specs.declared.label.Label.{Label}
use Rattle.ml_cone.specs.declared.order.Order.{Order}
use Rattle.ml_cone.specs.declared.slot.Slot.{Slot}
use Rattle.ml_watch.specs.Spelling.{Spells}
use Rattle.ml_pass.specs.Row.{ReadsBox}
use Rattle.ml_follow.proofs.Lower.{OneSpelling, OneList}
use Rattle.ml_follow.specs.StateLine.{WriteLabel, WriteRow, ReadsRow}
use Rattle.ml_follow.specs.Reading.{IsBegunBy, IsBegunAnswer, unfinished_of, IsJoinedAnswer, IsLongerAnswer, IsLabelAnswer, IsRowWritten, IsRowAnswer}
use Rattle.ml_follow.specs.States.{IsNextRow}
use Rattle.ml_follow.specs.declared.opened.Opened.{Opened}

-- ---- the first line

-- the answer for three words is the answer for the line that they make
pub begun_from : (line word rev count : List ℕ) (answer : Option Opened) → IsUtf8 line → parts 32 line ≡ word ∷ rev ∷ count ∷ [] → IsBegunBy word rev count answer → IsBegunAnswer line answer
begun_from line word rev count None text words h =
    λ r n l.
    let e : l.word ∷ l.rev_word ∷ l.count_word ∷ [] ≡ word ∷ rev ∷ count ∷ [] = sym l.words ∙ words in
    let p : l.word ≡ word = cc e in
    let q : l.rev_word ≡ rev = cc e in
    let s : l.count_word ≡ count = cc e in
    h r n (rw (p, q, s) at l.write)
begun_from line word rev count (Some opened) text words h =
    record { head = record { is_text = text; word = word; rev_word = rev; count_word = count; words = words; write = h.0 }; empty = h.1 }

-- ---- a label

-- 2^28
abbrev top : Fraction
top = record { num = 2 ^ 28; den = 1; positive = lit< tt }

module _ (spelling : OneSpelling) (lists : OneList) (id x y min max margin : List ℕ) (boxes : List (List ℕ)) (place : ℕ) (order : Order)
    (xv yv : ℤ) (bs : List BoxPx) (pieces : List (List ℕ)) (minv maxv : Ratio) (mv : ℕ) (class_is : order.class ≡ place)
    (rank_is : order.rank ≡ 0) (id_is : Spells id order.id) (x_is : whole_number x ≡ Some xv) (y_is : whole_number y ≡ Some yv)
    (min_is : ReadsRatio min (Some minv)) (max_is : ReadsRatio max (Some maxv)) (margin_is : whole_number margin ≡ Some (pos mv))
    (low_is : IsMargin mv) (boxes_are : AllZip ReadsBox boxes bs) (pieces_are : pieces ≡ order.id ∷ replicate (length bs - 1) []) where
  parts_of_label : (label : Label) → WriteLabel id x y min max margin boxes place label → AreLabelParts xv yv bs pieces minv maxv mv
  parts_of_label label w =
      let fx : Some xv ≡ Some label.x = sym x_is ∙ w.x_is in
      let fy : Some yv ≡ Some label.y = sym y_is ∙ w.y_is in
      let ex : xv ≡ label.x = cc in
      let ey : yv ≡ label.y = cc in
      let eb : bs ≡ label.boxes = lists boxes bs label.boxes boxes_are w.boxes_are in
      let long : length bs ≡ length boxes = AllZip-long ReadsBox boxes bs boxes_are in
      let ids : order.id ≡ label.order.id = spelling id order.id label.order.id id_is w.id_is in
      let ep : pieces ≡ label.pieces = (pieces_are ∙ ap (λ (t : List ℕ). t ∷ replicate (length bs - 1) []) ids ∙ ap (λ (n : ℕ). label.order.id ∷ replicate (n - 1) []) long ∙ sym w.pieces_are) in
      let emin : IsSame (value_of minv) (value_of label.min) = ratio_same min minv label.min min_is w.min_is in
      let emax : IsSame (value_of maxv) (value_of label.max) = ratio_same max maxv label.max max_is w.max_is in
      let range : IsLess (value_of label.min) (value_of label.max) = label.range in
      let low : IsAtMost (value_of label.max) top = (let h = label.low_max in omega arith) in
      record {
        world_x = rw ex label.world_x;
        world_y = rw ey label.world_y;
        some_box = rw eb label.some_box;
        few_boxes = rw eb label.few_boxes;
        good_boxes = rw eb label.good_boxes;
        one_piece_each = rw (eb, ep) label.one_piece_each;
        range = less_at_most (value_of minv) (value_of label.max) (value_of maxv) (at_most_less (value_of minv) (value_of label.min) (value_of label.max) (omega arith) range) (omega arith);
        low_max =
            let most : IsAtMost (value_of maxv) top = at_most_trans (value_of maxv) (value_of label.max) top (omega arith) low in
            omega arith;
        low_margin = low_is;
      }

  -- the label that the values make is the one that the words write; where they make none, the words write none
  pub label_from : (o : Option Label) → IsLabelOf order xv yv bs pieces minv maxv mv o → IsLabelAnswer id x y min max margin boxes place o
  label_from None h = λ label w. h (parts_of_label label w)
  label_from (Some label) h =
      let has = h.1 in
      let long : length bs ≡ length boxes = AllZip-long ReadsBox boxes bs boxes_are in
      record {
        class_is = ap (λ (o : Order). o.class) has.order_is ∙ class_is;
        rank_is = ap (λ (o : Order). o.rank) has.order_is ∙ rank_is;
        id_is = subst (λ (o : Order). Spells id o.id) (sym has.order_is) id_is;
        x_is = x_is ∙ ap Some (sym has.x_is);
        y_is = y_is ∙ ap Some (sym has.y_is);
        min_is = rw has.min_is min_is;
        max_is = rw has.max_is max_is;
        margin_is = margin_is ∙ ap (λ (n : ℕ). Some (pos n)) (sym has.margin_is);
        boxes_are = rw has.boxes_are boxes_are;
        pieces_are = has.pieces_are ∙ pieces_are ∙ ap (λ (n : ℕ). order.id ∷ replicate (n - 1) []) long ∙ ap (λ (o : Order). o.id ∷ replicate (length boxes - 1) []) (sym has.order_is);
      }

-- ---- a line

-- a line has one list of words
pub the_words : (line id x y min max margin until blocker : List ℕ) (boxes : List (List ℕ)) (place count : ℕ) (label : Label) (slot : Slot) →
    parts 32 line ≡ id ∷ x ∷ y ∷ min ∷ max ∷ margin ∷ until ∷ blocker ∷ boxes →
    ReadsRow line place count label slot → WriteRow id x y min max margin until blocker boxes place count label slot
the_words line id x y min max margin until blocker boxes place count label slot words l =
    let e : l.id ∷ l.x ∷ l.y ∷ l.min ∷ l.max ∷ l.margin ∷ l.until ∷ l.blocker ∷ l.boxes ≡ id ∷ x ∷ y ∷ min ∷ max ∷ margin ∷ until ∷ blocker ∷ boxes = sym l.words ∙ words in
    let a : l.id ≡ id = cc e in
    let b : l.x ≡ x = cc e in
    let c : l.y ≡ y = cc e in
    let d : l.min ≡ min = cc e in
    let f : l.max ≡ max = cc e in
    let g : l.margin ≡ margin = cc e in
    let h : l.until ≡ until = cc e in
    let i : l.blocker ≡ blocker = cc e in
    let j : l.boxes ≡ boxes = cc e in
    rw (a, b, c, d, f, g, h, i, j) at l.write

-- the answer for words is the answer for the line that they make
pub row_from : (line id x y min max margin until blocker : List ℕ) (boxes : List (List ℕ)) (place count : ℕ) (answer : Option (Label × Slot)) →
    IsUtf8 line → parts 32 line ≡ id ∷ x ∷ y ∷ min ∷ max ∷ margin ∷ until ∷ blocker ∷ boxes →
    IsRowWritten id x y min max margin until blocker boxes place count answer → IsRowAnswer line place count answer
row_from line id x y min max margin until blocker boxes place count None text words h =
    λ label slot l. h label slot (the_words line id x y min max margin until blocker boxes place count label slot words l)
row_from line id x y min max margin until blocker boxes place count (Some row) text words h =
    record { is_text = text; id = id; x = x; y = y; min = min; max = max; margin = margin; until = until; blocker = blocker; boxes = boxes; words = words; write = h }

-- the same where memory may run out: if an answer for words came, it is the answer for the line that they make
pub row_result : {E : Type 0} (line id x y min max margin until blocker : List ℕ) (boxes : List (List ℕ)) (place count : ℕ) (r : Result (Option (Label × Slot)) E) →
    IsUtf8 line → parts 32 line ≡ id ∷ x ∷ y ∷ min ∷ max ∷ margin ∷ until ∷ blocker ∷ boxes →
    IfOk r (IsRowWritten id x y min max margin until blocker boxes place count) → IfOk r (IsRowAnswer line place count)
row_result line id x y min max margin until blocker boxes place count (Ok answer) text words h = row_from line id x y min max margin until blocker boxes place count answer text words h
row_result line id x y min max margin until blocker boxes place count (Err e) text words h = tt

-- a list of eight and more
eight_parts : (items : List (Bor (List ℕ))) (d : Bor (List ℕ)) → 8 ≤ length items →
    map (λ part. part.now) items ≡ (get_or items 0 d).now ∷ (get_or items 1 d).now ∷ (get_or items 2 d).now ∷ (get_or items 3 d).now
    ∷ (get_or items 4 d).now ∷ (get_or items 5 d).now ∷ (get_or items 6 d).now ∷ (get_or items 7 d).now ∷ map (λ part. part.now) (drop 8 items)
eight_parts (a ∷ b ∷ c ∷ e ∷ f ∷ g ∷ h ∷ i ∷ items) d k = refl
eight_parts [] d k = absurd (omega arith)
eight_parts (a ∷ []) d k = absurd (omega arith)
eight_parts (a ∷ b ∷ []) d k = absurd (omega arith)
eight_parts (a ∷ b ∷ c ∷ []) d k = absurd (omega arith)
eight_parts (a ∷ b ∷ c ∷ e ∷ []) d k = absurd (omega arith)
eight_parts (a ∷ b ∷ c ∷ e ∷ f ∷ []) d k = absurd (omega arith)
eight_parts (a ∷ b ∷ c ∷ e ∷ f ∷ g ∷ []) d k = absurd (omega arith)
eight_parts (a ∷ b ∷ c ∷ e ∷ f ∷ g ∷ h ∷ []) d k = absurd (omega arith)

-- the first eight of many words, each by its place, and those that are cut out behind them are all words
pub eight_taken : (items : List (Bor (List ℕ))) (d : Bor (List ℕ)) → 8 ≤ length items →
    map (λ part. part.now) items ≡ (get_or items 0 d).now ∷ (get_or items 1 d).now ∷ (get_or items 2 d).now ∷ (get_or items 3 d).now ∷ (get_or items 4 d).now
    ∷ (get_or items 5 d).now ∷ (get_or items 6 d).now ∷ (get_or items 7 d).now ∷ map (λ part. part.now) (take (length items - 8) (drop 8 items))
eight_taken items d k =
    let all : take (length items - 8) (drop 8 items) ≡ drop 8 items = take_all (length items - 8) (drop 8 items) (omega (arith, length-drop 8 items)) in
    eight_parts items d k
    ∙ ap (λ (t : List (Bor (List ℕ))). (get_or items 0 d).now ∷ (get_or items 1 d).now ∷ (get_or items 2 d).now ∷ (get_or items 3 d).now
    ∷ (get_or items 4 d).now ∷ (get_or items 5 d).now ∷ (get_or items 6 d).now ∷ (get_or items 7 d).now ∷ map (λ part. part.now) t) (sym all)

-- a line of fewer than eight words is that of no label
pub too_few : (line : List ℕ) (items : List (Bor (List ℕ))) (place count : ℕ) → parts 32 line ≡ map (λ part. part.now) items →
    length items < 8 → (label : Label) (slot : Slot) → ¬ (ReadsRow line place count label slot)
too_few line items place count split few label slot row =
    let many : length (parts 32 line) ≡ length items = ap length split ∙ length-map items (λ (part : Bor (List ℕ)). part.now) in
    let eight = ap length row.words in
    omega arith

-- a line has one id
pub same_id : (spelling : OneSpelling) (line : List ℕ) (place count : ℕ) (a b : Label) (s t : Slot) → ReadsRow line place count a s → ReadsRow line place count b t → a.order.id ≡ b.order.id
same_id spelling line place count a b s t one two =
    let w = the_words line one.id one.x one.y one.min one.max one.margin one.until one.blocker one.boxes place count b t one.words two in
    spelling one.id a.order.id b.order.id one.write.its_label.id_is w.its_label.id_is

-- ---- the next line of a state

-- a label that came in with its slot
pub longer_from : {E : Type 0} (spelling : OneSpelling) (line : List ℕ) (old : Opened) (label : Label) (slot : Slot) (r : Result (Option Opened) E) →
    ReadsRow line (length old.state.labels) old.count label slot → IfOk r (IsJoinedAnswer label slot old) → IfOk r (IsLongerAnswer line old)
longer_from spelling line old label slot (Err e) row h = tt
longer_from spelling line old label slot (Ok (Some new)) row h = record { label = label; slot = slot; next = record { row = row; new = h.0 }; joined = h.1 }
longer_from spelling line old label slot (Ok None) row h =
    λ other its next.
    let ids = same_id spelling line (length old.state.labels) old.count label other slot its row next.row in
    next.new h.0 (subst (λ (id : List ℕ). IsPlaceOf old.state.labels id h.0) ids h.1)

-- a line that is no label's at the next place is not that of the next label of the state
pub no_next : (line : List ℕ) (old : Opened) → ((label : Label) (slot : Slot) → ¬ (ReadsRow line (length old.state.labels) old.count label slot)) →
    (label : Label) (slot : Slot) → ¬ (IsNextRow line (unfinished_of old) label slot)
no_next line old none label slot next = none label slot next.row
