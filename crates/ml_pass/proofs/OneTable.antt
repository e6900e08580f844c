-- A table has one reading at most, none where it is refused, and one fault.
use Rattle.std.proofs.Common.{◌^◌, ◌≡◌, ◌≢◌, ℕ, ◌*◌, ◌<◌, ◌≤◌, List, ◌∷◌, length, get_or, Some, inl, inr, refl, sym, ap, subst, ◌∙◌, arith}
use Rattle.std.specs.Prelude.{All, Result, Ok, Err, IfOk, IfErr}
use Rattle.std.proofs.Props.{props}
use mathlib.Core.HLevel.{is_prop→PathP}
use Rattle.std.specs.Ordering.{nat_cmp}
use Rattle.std.specs.declared.cmp.Ordering.TheVariants.{Equal}
use Rattle.std.proofs.lemmas.Bool.{cases_order}
use Rattle.std.proofs.lemmas.Bool.Decides.{nat_tests}
use Rattle.std.proofs.lemmas.List.{same_lists}
use Rattle.ml_ratio.specs.Fraction.{value_of, IsLess, IsSame}
use Rattle.ml_ratio.specs.Lines.{entries, entry}
use Rattle.ml_ratio.specs.World.{IsInWorld}
use Rattle.ml_ratio.specs.Refusal.{RefusesExactly}
use Rattle.ml_ratio.specs.RatioExact.{ratio_exact}
use Rattle.ml_ratio.specs.declared.ratio.Ratio.{Ratio}
use Rattle.ml_ratio.proofs.lemmas.Numerals.{ratio_same}
use Rattle.ml_ratio.proofs.lemmas.Lists.{pick}
use Rattle.ml_cone.specs.Places.{IsPlaceOf}
use Rattle.ml_cone.specs.Plane.{IsBox, IsMargin}
use Rattle.ml_cone.specs.declared.label.Label.{Label}
use Rattle.ml_pass.specs.Row.{ReadsBox, WritesLabel, ReadsRow}
use Rattle.ml_pass.specs.Table.{AreFirst, IsTable, IsSameId, IsFull, IsFaultAfter, IsTableFault, GivesTable}
use Rattle.ml_pass.specs.declared.fault.TableFault.{TableFault}
use Rattle.ml_pass.specs.declared.fault.TableFault.TheVariants.{BadLine, SameId, Full, Memory}
use Rattle.ml_pass.proofs.RowLemmas.{box_unique, zip_unique}

-- ---- a line has one reading

equal_ratio : (a b : Ratio) → IsSame (value_of a) (value_of b) → a ≡ b
equal_ratio a b e = ratio_exact a b (same_cmp (a.num * b.den) (b.num * a.den) e)
  where
    same_cmp : (p q : ℕ) → p ≡ q → nat_cmp p q ≡ Equal
    same_cmp p q e = grind (arith, nat_tests)

label_same : (a b : Label) → a.order ≡ b.order → a.x ≡ b.x → a.y ≡ b.y → a.boxes ≡ b.boxes → a.pieces ≡ b.pieces → a.min ≡ b.min → a.max ≡ b.max → a.margin ≡ b.margin → a ≡ b
label_same a b o x y p t l h m i = record {
  order = o i;
  x = x i;
  y = y i;
  boxes = p i;
  pieces = t i;
  min = l i;
  max = h i;
  margin = m i;
  world_x = is_prop→PathP (λ j. IsInWorld (x j)) (λ j. hlevel props) a.world_x b.world_x i;
  world_y = is_prop→PathP (λ j. IsInWorld (y j)) (λ j. hlevel props) a.world_y b.world_y i;
  some_box = is_prop→PathP (λ j. 0 < length (p j)) (λ j. hlevel props) a.some_box b.some_box i;
  few_boxes = is_prop→PathP (λ j. length (p j) ≤ 64) (λ j. hlevel props) a.few_boxes b.few_boxes i;
  good_boxes = is_prop→PathP (λ j. All (λ q. IsBox q.l q.b q.r q.t) (p j)) (λ j. hlevel props) a.good_boxes b.good_boxes i;
  one_piece_each = is_prop→PathP (λ j. length (t j) ≡ length (p j)) (λ j. hlevel props) a.one_piece_each b.one_piece_each i;
  range = is_prop→PathP (λ j. IsLess (value_of (l j)) (value_of (h j))) (λ j. hlevel props) a.range b.range i;
  low_max = is_prop→PathP (λ j. (h j).num ≤ 2 ^ 28 * (h j).den) (λ j. hlevel props) a.low_max b.low_max i;
  low_margin = is_prop→PathP (λ j. IsMargin (m j)) (λ j. hlevel props) a.low_margin b.low_margin i;
}

words_same : (id x y min max : List ℕ) (boxes : List (List ℕ)) (place : ℕ) (a b : Label) → WritesLabel id x y min max boxes place a → WritesLabel id x y min max boxes place b → a ≡ b
words_same id x y min max boxes place a b v w =
    let ids = v.id_is ∙ sym w.id_is in
    let classes = v.class_is ∙ sym w.class_is in
    let ranks = v.rank_is ∙ sym w.rank_is in
    let orders : a.order ≡ b.order = λ i. record { class = classes i; rank = ranks i; id = ids i } in
    let fx : Some a.x ≡ Some b.x = sym v.x_is ∙ w.x_is in
    let fy : Some a.y ≡ Some b.y = sym v.y_is ∙ w.y_is in
    let ex : a.x ≡ b.x = cc fx in
    let ey : a.y ≡ b.y = cc fy in
    let em = v.margin_is ∙ sym w.margin_is in
    let eb = zip_unique ReadsBox box_unique boxes a.boxes b.boxes v.boxes_are w.boxes_are in
    let ep = v.pieces_are ∙ sym w.pieces_are in
    let el = equal_ratio a.min b.min (ratio_same min a.min b.min v.min_is w.min_is) in
    let eh = equal_ratio a.max b.max (ratio_same max a.max b.max v.max_is w.max_is) in
    label_same a b orders ex ey eb ep el eh em

row_same : (line : List ℕ) (place : ℕ) (a b : Label) → ReadsRow line place a → ReadsRow line place b → a ≡ b
row_same line place a b v w =
    let e : v.id ∷ v.x ∷ v.y ∷ v.min ∷ v.max ∷ v.boxes ≡ w.id ∷ w.x ∷ w.y ∷ w.min ∷ w.max ∷ w.boxes = sym v.split ∙ w.split in
    let e0 : v.id ≡ w.id = cc e in
    let e1 : v.x ≡ w.x = cc e in
    let e2 : v.y ≡ w.y = cc e in
    let e3 : v.min ≡ w.min = cc e in
    let e4 : v.max ≡ w.max = cc e in
    let e5 : v.boxes ≡ w.boxes = cc e in
    let there : WritesLabel v.id v.x v.y v.min v.max v.boxes place b = rw (e0, e1, e2, e3, e4, e5) w.writes in
    words_same v.id v.x v.y v.min v.max v.boxes place a b v.writes there

-- ---- a table has one reading

first_same : (bytes : List ℕ) (labels others : List Label) → AreFirst bytes labels → AreFirst bytes others → length labels ≡ length others → labels ≡ others
first_same bytes labels others v w same =
    same_lists labels others same (λ k d lt. row_same (entry bytes k).1 k (get_or labels k d) (get_or others k d) (v.written k lt d) (w.written k (omega arith) d))

-- a table has one list of labels
pub one_table : (bytes : List ℕ) (labels others : List Label) → IsTable bytes labels → IsTable bytes others → labels ≡ others
one_table bytes labels others v w = first_same bytes labels others v.first w.first (v.every_line ∙ sym w.every_line)

-- a line that writes one more of the labels is not at fault
not_at_fault : (bytes : List ℕ) (labels others : List Label) (fault : TableFault) → AreFirst bytes labels →
    AreFirst bytes others → length labels < length others → fault ≢ Memory → IsFaultAfter bytes labels fault → ⊥
not_at_fault bytes labels others (BadLine k) v w less some bad =
    let d = pick others (length labels) less in
    bad.no_row (get_or others (length labels) d) (w.written (length labels) less d)
not_at_fault bytes labels others (SameId k) v w less some bad =
    let n = length labels in
    let d = bad.label in
    let j = bad.known.0 in
    let below = bad.known.1.0 in
    let here = row_same (entry bytes n).1 n d (get_or others n d) bad.row (w.written n less d) in
    let there = row_same (entry bytes j).1 j (get_or labels j d) (get_or others j d) (v.written j below d) (w.written j (omega arith) d) in
    w.differ j n below less d (ap (λ (l : Label). l.order.id) (sym there) ∙ bad.known.1.1 d ∙ ap (λ (l : Label). l.order.id) here)
not_at_fault bytes labels others Full v w less some bad =
    let most = w.few in
    let full = bad.full in
    omega arith
not_at_fault bytes labels others Memory v w less some bad = some refl

-- of one line one thing is wrong
one_wrong : (bytes : List ℕ) (labels : List Label) (one other : TableFault) → one ≢ Memory → other ≢ Memory → IsFaultAfter bytes labels one → IsFaultAfter bytes labels other → one ≡ other
one_wrong bytes labels Memory other some more v w = absurd (some refl)
one_wrong bytes labels (BadLine k) Memory some more v w = absurd (more refl)
one_wrong bytes labels (SameId k) Memory some more v w = absurd (more refl)
one_wrong bytes labels Full Memory some more v w = absurd (more refl)
one_wrong bytes labels (BadLine k) (BadLine j) some more v w = ap BadLine (sym v.numbered ∙ w.numbered)
one_wrong bytes labels (BadLine k) (SameId j) some more v w = absurd (v.no_row w.label w.row)
one_wrong bytes labels (BadLine k) Full some more v w = absurd (v.no_row w.label w.row)
one_wrong bytes labels (SameId k) (BadLine j) some more v w = absurd (w.no_row v.label v.row)
one_wrong bytes labels (SameId k) (SameId j) some more v w = ap SameId (sym v.numbered ∙ w.numbered)
one_wrong bytes labels (SameId k) Full some more v w = absurd (known_and_new v w)
  where
    known_and_new : IsSameId bytes labels k → IsFull bytes labels → ⊥
    known_and_new v w =
        let same = row_same (entry bytes (length labels)).1 (length labels) v.label w.label v.row w.row in
        w.new v.known.0 (subst (λ (l : Label). IsPlaceOf labels l.order.id v.known.0) same v.known.1)
one_wrong bytes labels Full (BadLine j) some more v w = absurd (w.no_row v.label v.row)
one_wrong bytes labels Full (SameId j) some more v w =
    let same = row_same (entry bytes (length labels)).1 (length labels) w.label v.label w.row v.row in
    absurd (v.new w.known.0 (subst (λ (l : Label). IsPlaceOf labels l.order.id w.known.0) same w.known.1))
one_wrong bytes labels Full Full some more v w = refl

-- what a fault other than out of memory says
abbrev IsAfter : List ℕ → TableFault → Type 0
IsAfter bytes fault = (labels : List Label) × AreFirst bytes labels × (length labels < length (entries bytes)) × IsFaultAfter bytes labels fault

is_after : (bytes : List ℕ) (fault : TableFault) → fault ≢ Memory → IsTableFault bytes fault → IsAfter bytes fault
is_after bytes (BadLine k) some v = v
is_after bytes (SameId k) some v = v
is_after bytes Full some v = v
is_after bytes Memory some v = absurd (some refl)

-- nothing is wrong with a table that has labels, out of memory aside
pub faultless : (bytes : List ℕ) (labels : List Label) (fault : TableFault) → IsTable bytes labels → fault ≢ Memory → ¬ (IsTableFault bytes fault)
faultless bytes labels fault table some is =
    let v = is_after bytes fault some is in
    let whole = table.every_line in
    let fewer = v.2 in
    not_at_fault bytes v.0 labels fault v.1 table.first (omega arith) some v.3

-- one thing at most is wrong with a table, at one line, out of memory aside
pub one_fault : (bytes : List ℕ) (one other : TableFault) → one ≢ Memory → other ≢ Memory → IsTableFault bytes one → IsTableFault bytes other → one ≡ other
one_fault bytes one other some more is are =
    let v = is_after bytes one some is in
    let w = is_after bytes other more are in
    elim (cases_order (length v.0) (length w.0)) [
      | inl same ↦
          let labels = first_same bytes v.0 w.0 v.1 w.1 same in
          one_wrong bytes w.0 one other some more (subst (λ (ls : List Label). IsFaultAfter bytes ls one) labels v.3) w.3
      | inr (inl less) ↦ absurd (not_at_fault bytes v.0 w.0 one v.1 w.1 less some v.3)
      | inr (inr greater) ↦ absurd (not_at_fault bytes w.0 v.0 other w.1 v.1 greater more w.3)
    ]

-- ---- what an answer says is all that there is to say

-- a table that has labels is read as those, unless memory is wanting
pub reads_from : (bytes : List ℕ) (r : Result (List Label) TableFault) → IfOk r (λ labels. IsTable bytes labels) →
    IfErr r (λ fault. IsTableFault bytes fault) → (labels : List Label) → IsTable bytes labels → GivesTable r labels
reads_from bytes (Ok others) ok err labels are = inl (ap Ok (one_table bytes others labels ok are))
reads_from bytes (Err Memory) ok err labels are = inr refl
reads_from bytes (Err (BadLine k)) ok err labels are = absurd (faultless bytes labels (BadLine k) are (λ e. cc e) err)
reads_from bytes (Err (SameId k)) ok err labels are = absurd (faultless bytes labels (SameId k) are (λ e. cc e) err)
reads_from bytes (Err Full) ok err labels are = absurd (faultless bytes labels Full are (λ e. cc e) err)

-- an answer that refuses
abbrev refusal : TableFault → Result (List Label) TableFault
refusal given = Err given

refused_as : (bytes : List ℕ) (given fault : TableFault) → given ≢ Memory → fault ≢ Memory → IsTableFault bytes given → RefusesExactly (refusal given) fault Memory (IsTableFault bytes fault)
refused_as bytes given fault some more is = (
  λ e.
      let same : given ≡ fault = cc e in
      subst (IsTableFault bytes) same is,
  λ there. inl (ap Err (one_fault bytes given fault some more is there)),
)

-- a table is refused with a fault, out of memory aside, exactly where that fault is what is wrong with it
pub refused_from : (bytes : List ℕ) (r : Result (List Label) TableFault) → IfOk r (λ labels. IsTable bytes labels) →
    IfErr r (λ fault. IsTableFault bytes fault) → (fault : TableFault) → fault ≢ Memory → RefusesExactly r fault Memory (IsTableFault bytes fault)
refused_from bytes (Ok labels) ok err fault some = (λ e. absurd (cc e), λ is. absurd (faultless bytes labels fault ok some is))
refused_from bytes (Err Memory) ok err fault some = (λ e. absurd (let same : Memory ≡ fault = cc e in some (sym same)), λ is. inr refl)
refused_from bytes (Err (BadLine k)) ok err fault some = refused_as bytes (BadLine k) fault (λ e. cc e) some err
refused_from bytes (Err (SameId k)) ok err fault some = refused_as bytes (SameId k) fault (λ e. cc e) some err
refused_from bytes (Err Full) ok err fault some = refused_as bytes Full fault (λ e. cc e) some err
