-- What has been gathered of the first rows, as one more is read.
use Rattle.std.proofs.Common.{◌≡◌, ℕ, ◌+◌, ◌<◌, List, [], ◌∷◌, ◌++◌, length, get_or, take, sym, ap, ◌∙◌, arith}
use Rattle.std.specs.Prelude.{Box, box_value, IfOk, Result, Ok, Err}
use Rattle.std.specs.declared.alloc.Global.{Global}
use Rattle.std.proofs.Math.Seq.{take-length}
use Rattle.std.proofs.lemmas.List.{append-nil, get_or-take, get_or-map, length-map, length-take-le, map-append, take_more}
use Rattle.ml_ratio.specs.Lists.{IsAdded}
use Rattle.ml_ratio.proofs.lemmas.Lists.{map_contains}
use Rattle.ml_store.specs.Boxes.{unboxed}
use Rattle.ml_store.specs.Names.{naming_of, names_in}
use Rattle.ml_store.specs.Rows.{number_at, IsFresh, HaveOwnNumbers}
use Rattle.ml_store.specs.declared.row.Row.{Row}
use Rattle.ml_store.proofs.Naming.{number_read}

-- one element more is read
pub added_next : {A : Type 0} (xs : List A) (i : ℕ) (x : A) → i < length xs → x ≡ get_or xs i x → IsAdded x (take i xs) (take (i + 1) xs)
added_next xs i x lt read = record {
  before = take i xs;
  after = [];
  was = sym (append-nil (take i xs));
  is = take_more xs i x lt ∙ ap (λ y. take i xs ++ y ∷ []) (sym read);
}

-- no row before has the number of the one that is read
pub fresh_next : (rows : List Row) (i : ℕ) (r : Row) → HaveOwnNumbers rows → i < length rows → r ≡ get_or rows i r → IsFresh r.number (take i rows)
fresh_next rows i r differ lt read there =
    let some = map_contains (λ (s : Row). s.number) (take i rows) r.number there in
    let s : Row = some.0 in
    let k = some.1.0 in
    let long = length-take-le i rows (omega arith) in
    let in' : k < length (take i rows) = some.1.1 in
    let is : get_or (take i rows) k s ≡ s = some.1.2 in
    let low : k < i = omega arith in
    let at : s ≡ get_or rows k s = sym is ∙ get_or-take i rows k s low in
    let many = length-map rows (λ (s : Row). s.number) in
    let one : number_at rows k ≡ s.number = number_read rows k s (omega arith) at in
    let other : number_at rows i ≡ r.number = number_read rows i r lt read in
    differ k i 0 low (omega arith) (one ∙ some.2 ∙ sym other)

-- one box more is read
module _ (boxes : List (Box Row Global)) (i : ℕ) (b : Box Row Global) (lt : i < length boxes) (read : b ≡ get_or boxes i b) where
  -- the row in the box that is read is the row at that place
  pub box_read : b.value ≡ get_or (unboxed boxes) i b.value
  box_read = ap box_value read ∙ sym (get_or-map box_value boxes i b b.value lt)

  -- the place of the box that is read is that of some row
  pub row_there : i < length (unboxed boxes)
  row_there = let long = length-map boxes box_value in omega arith

  -- the first rows up to this box are those read before and its row
  pub added_box : IsAdded b.value (take i (unboxed boxes)) (take (i + 1) (unboxed boxes))
  added_box = added_next (unboxed boxes) i b.value row_there box_read

  -- where rows have numbers of their own, no row read before has the number of the row in this box
  pub fresh_box : HaveOwnNumbers (unboxed boxes) → IsFresh b.value.number (take i (unboxed boxes))
  fresh_box differ = fresh_next (unboxed boxes) i b.value differ row_there box_read

-- all boxes are read
pub all_read : (boxes : List (Box Row Global)) (i : ℕ) → i ≡ length boxes → take i (unboxed boxes) ≡ unboxed boxes
all_read boxes i is =
    let long = length-map boxes box_value in
    let e : i ≡ length (unboxed boxes) = omega arith in
    ap (λ k. take k (unboxed boxes)) e ∙ take-length (unboxed boxes)

-- the names of the rows so far, and that of the one that is read
pub names_next : (rows : List Row) (i : ℕ) (r : Row) → i < length rows → r ≡ get_or rows i r → names_in (take (i + 1) rows) ≡ names_in (take i rows) ++ naming_of r ∷ []
names_next rows i r lt read = ap names_in (take_more rows i r lt) ∙ map-append naming_of (take i rows) (get_or rows i r ∷ []) ∙ ap (λ s. names_in (take i rows) ++ naming_of s ∷ []) (sym read)

-- what is true of a value where there is one, in weaker words
pub if_ok : {T E : Type 0} (r : Result T E) (P Q : T → Type 0) → ((x : T) → P x → Q x) → IfOk r P → IfOk r Q
if_ok (Ok x) P Q weaker h = weaker x h
if_ok (Err e) P Q weaker h = h
