-- What plans make of the live labels.
use Rattle.std.proofs.Common.{◌≡◌, ◌≢◌, ℕ, zero, suc, ◌+◌, ◌<◌, List, [], ◌∷◌, length, get_or, Contains, ◌⊎◌, inl, inr, refl, sym, ap, ◌∙◌, subst, arith, Option, Some, None}
use Rattle.std.specs.Prelude.{insert, remove, All}
use Rattle.std.specs.Option.{option_map}
use Rattle.std.proofs.lemmas.Bool.{cases_lt}
use Rattle.std.proofs.lemmas.List.{get_or-map, length-map}
use Rattle.std.proofs.lemmas.List.Edits.{length-remove, get_or-remove_below, get_or-remove_above}
use Rattle.ml_cone.specs.Label.{IsLabelList}
use Rattle.ml_cone.specs.Places.{IsPlaceOf, IsNoId}
use Rattle.ml_cone.specs.Slots.{AreSlots}
use Rattle.ml_cone.specs.declared.label.Label.{Label}
use Rattle.ml_cone.specs.declared.slot.Slot.{Slot}
use Rattle.ml_store.specs.Numbered.{AreNumbered}
use Rattle.ml_store.specs.Rows.{numbers_in, labels_in, slots_in, number_at, HasId}
use Rattle.ml_store.specs.declared.row.Row.{Row}
use Rattle.ml_repair.specs.Edit.{IsEdited}
use Rattle.ml_repair.specs.Placed.{IsPlaceFor}
use Rattle.ml_repair.specs.Plan.{moved_row, moved_rows, slot_for, with_row, without_id}
use Rattle.ml_repair.specs.Repair.{AreSettled}
use Rattle.ml_repair.specs.Settled.{IsSettled}
use Rattle.ml_store.specs.declared.moved.Moved.{Moved}
use Rattle.ml_repair.proofs.Changing.{IsEdit}
use Rattle.ml_repair.proofs.Edited.{moved-insert}
use Rattle.ml_repair.proofs.NearRosters.{row_there, label_read}
use Rattle.ml_repair.proofs.Placing.{with_row_is, without_is, only_id}
use Rattle.ml_repair.proofs.Present.{length-labels, labels-moved, numbers-moved}
use Rattle.ml_ratio.proofs.lemmas.Lists.{contains_map, map_contains, insert_has, insert_only, insert_there, remove_has, remove_only}

-- ---- numbers of rows, and rows with numbers

-- where all numbers in a list of rows are low, each row has a low number
pub low_rows : (rows : List Row) → All (λ n. n < 32768) (numbers_in rows) → All (λ r. r.number < 32768) rows
low_rows rows all k d lt =
    let many = length-map rows (λ (r : Row). r.number) in
    let h = all k 0 (omega arith) in
    let e : get_or (numbers_in rows) k 0 ≡ (get_or rows k d).number = get_or-map (λ (r : Row). r.number) rows k d 0 lt in
    omega arith

-- where each row has a low number, all numbers in the list are low
pub low_of_rows : (rows : List Row) → All (λ r. r.number < 32768) rows → All (λ n. n < 32768) (numbers_in rows)
low_of_rows rows all k d lt =
    let many = length-map rows (λ (r : Row). r.number) in
    let in' : k < length rows = omega arith in
    let s = row_there rows k in' in
    let h = all k s.0 in' in
    let e : get_or (numbers_in rows) k d ≡ (get_or rows k s.0).number = get_or-map (λ (r : Row). r.number) rows k s.0 d in' in
    omega arith

-- settled rows are not too many, and each has a low number of its own
pub numbered : (rows : List Row) → IsSettled rows → AreNumbered rows
numbered rows s = record { few = s.few; differ = s.own_numbers; low = low_of_rows rows s.low_numbers }

-- ---- rows with their new slots are settled

-- rows in priority order with numbers of their own are settled once they have the present slots of the longest choice
pub settled_after : (rows : List Row) (moved : List Moved) → AreNumbered rows → IsLabelList (labels_in rows) → AreSettled rows moved → IsSettled (moved_rows moved rows)
settled_after rows moved are up slots = record {
  few = (let n = length-map rows (moved_row moved) in let f = are.few in omega arith);
  in_order = rw (labels-moved rows moved) up;
  own_numbers = rw (numbers-moved rows moved) are.differ;
  low_numbers = low_rows (moved_rows moved rows) (rw (numbers-moved rows moved) are.low);
  slots =
      subst (λ (ns : List ℕ). AreSlots (λ i. get_or ns i 0) (labels_in (moved_rows moved rows)) (slots_in (moved_rows moved rows))) (sym (numbers-moved rows moved))
      (subst (λ (ls : List Label). AreSlots (number_at rows) ls (slots_in (moved_rows moved rows))) (sym (labels-moved rows moved)) slots);
}

-- ---- which rows there are before an edit and after it

pub record AreLeft (rows left : List Row) (id : List ℕ) : Type 0 where
  pub stays : (r : Row) → Contains rows r → r.label.order.id ≢ id → Contains left r
  pub stayed : (r : Row) → Contains left r → Contains rows r × (r.label.order.id ≢ id)

pub record AreJoinedBy (left all : List Row) (id : List ℕ) (come : Option Row) : Type 0 where
  pub only : (r : Row) → Contains all r → Contains left r ⊎ (come ≡ Some r)
  pub kept : (r : Row) → Contains left r → Contains all r
  pub here : (r : Row) → come ≡ Some r → Contains all r × (r.label.order.id ≡ id)

-- where no label has the id, all rows are left
pub left_all : (rows : List Row) (id : List ℕ) → ¬ (HasId (labels_in rows) id) → AreLeft rows rows id
left_all rows id new = record {
  stays = λ r there apart. there;
  stayed = λ r there. (there, λ e. new (r.label, contains_map (λ (t : Row). t.label) rows r there, e));
}

module _ (rows : List Row) (at : ℕ) (id : List ℕ) (up : IsLabelList (labels_in rows)) (lt : at < length rows) (here : (d : Row) → (get_or rows at d).label.order.id ≡ id) where
  others : (k : ℕ) (d : Row) → k < length rows → k ≢ at → (get_or rows k d).label.order.id ≢ id
  others k d k_in ne = only_id rows id at k d up lt k_in (here d) ne

  -- once the row with the id is removed, the rows that are left are all others
  pub left_remove : AreLeft rows (remove rows at) id
  left_remove =
      let s = row_there rows at lt in
      record {
        stays = λ r there apart. elim (remove_only rows at s.0 r lt s.1 there) [
          | inl e ↦ absurd (apart (ap (λ (t : Row). t.label.order.id) (sym e ∙ s.1) ∙ here s.0))
          | inr old ↦ old
        ];
        stayed = λ r there. (remove_has rows at s.0 r lt s.1 there, gone r there);
      }
    where
      gone : (r : Row) → Contains (remove rows at) r → r.label.order.id ≢ id
      gone r there e =
          let n = length-remove rows at lt in
          let k : ℕ = there.0 in
          let k_in : k < length (remove rows at) = there.1 in
          elim (cases_lt k at) [
            | inl low ↦ others k r (omega arith) (λ f. omega arith) (ap (λ (t : Row). t.label.order.id) (sym (get_or-remove_below rows at r k low lt) ∙ there.2) ∙ e)
            | inr high ↦ others (k + 1) r (omega arith) (λ f. omega arith) (ap (λ (t : Row). t.label.order.id) (sym (get_or-remove_above rows at r k high lt) ∙ there.2) ∙ e)
          ]

  -- the rows without the id are those from which the row at its place is removed
  pub without_remove_is : without_id id rows ≡ remove rows at
  without_remove_is = without_is id rows at lt here others

  -- nothing that is left has the id
  pub left_no_id : ¬ (HasId (labels_in (remove rows at)) id)
  left_no_id has =
      let s = map_contains (λ (t : Row). t.label) (remove rows at) has.0 has.1 in
      (left_remove.stayed s.0 s.1).1 (ap (λ (a : Label). a.order.id) s.2 ∙ has.2)

-- where no row comes, there are just the rows that are left
pub joined_none : (rows : List Row) (id : List ℕ) → AreJoinedBy rows rows id None
joined_none rows id = record { only = λ r there. inl there; kept = λ r there. there; here = λ r e. absurd cc }

-- where a row comes in at a place, there are the rows that are left, and that row
pub joined_some : (left : List Row) (at : ℕ) (row : Row) → AreJoinedBy left (insert left at row) row.label.order.id (Some row)
joined_some left at row =
    record {
      only = λ r there. elim (insert_only left at row r there) [ inl e ↦ inr (ap (λ (x : Row). Some x) e) | inr old ↦ inl old ];
      kept = λ r there. insert_has left at row r there;
      here = λ r e. let f : row ≡ r = cc in (subst (Contains (insert left at row)) f (insert_there left at row), ap (λ (t : Row). t.label.order.id) (sym f));
    }

-- ---- edits of rows

-- the label of the row that comes, if one does
abbrev pub label_of : Option Row → Option Label
label_of come = option_map (λ r. r.label) come

module _ (rows left all : List Row) (moved : List Moved) (id : List ℕ) (come : Option Row) (are : AreLeft rows left id) (joined : AreJoinedBy left all id come) where
  -- the rows before, those that are left, and those after with their new slots belong to one edit
  pub edit_is : IsLabelList (labels_in rows) → IsLabelList (labels_in all) → IsEdit rows (moved_rows moved all) left moved id
  edit_is up_before up_after = record {
    up_before = up_before;
    up_after = rw (labels-moved all moved) up_after;
    stays = are.stays;
    stayed = are.stayed;
    comes_back = λ r there. contains_map (moved_row moved) all r (joined.kept r there);
    came = λ r there apart.
        let s = map_contains (moved_row moved) all r there in
        elim (joined.only s.0 s.1) [
          | inl old ↦ (s.0, old, sym s.2)
          | inr new ↦ absurd (apart (ap (λ (t : Row). t.label.order.id) (sym s.2) ∙ (joined.here s.0 new).1))
        ];
  }

  -- after the edit the labels are those before it but any with the id, and that of the row that comes
  pub edited_is : IsEdited id (label_of come) (labels_in rows) (labels_in (moved_rows moved all))
  edited_is label =
      rw (labels-moved all moved) (
        λ h.
            let s = map_contains (λ (t : Row). t.label) all label h in
            elim (joined.only s.0 s.1) [
              | inl old ↦ let b = are.stayed s.0 old in
                  inl (subst (Contains (labels_in rows)) s.2 (contains_map (λ (t : Row). t.label) rows s.0 b.0), λ e. b.1 (ap (λ (a : Label). a.order.id) s.2 ∙ e))
              | inr new ↦ inr (ap label_of new ∙ ap (λ (a : Label). Some a) s.2)
            ],
        λ h.
            elim h [
              | inl old ↦
                  let s = map_contains (λ (t : Row). t.label) rows label old.0 in
                  subst (Contains (labels_in all)) s.2 (contains_map (λ (t : Row). t.label) all s.0 (joined.kept s.0 (are.stays s.0 s.1 (λ e. old.1 (sym (ap (λ (a : Label). a.order.id) s.2) ∙ e)))))
              | inr new ↦ some come refl new
            ],
      )
    where
      some : (c : Option Row) → come ≡ c → label_of come ≡ Some label → Contains (labels_in all) label
      some None e f = absurd (let g : None ≡ Some label = sym (ap label_of e) ∙ f in cc)
      some (Some r) e f =
          let g : Some r.label ≡ Some label = sym (ap label_of e) ∙ f in
          let l : r.label ≡ label = cc in
          subst (Contains (labels_in all)) l (contains_map (λ (t : Row). t.label) all r (joined.here r e).0)

-- the row that comes has the slot that it has
pub come_is : (left : List Row) (at : ℕ) (row : Row) (moved : List Moved) → IsPlaceFor (labels_in left) row.label.order at →
    ((own : Slot) → slot_for row.number own moved ≡ own) → with_row row (moved_rows moved left) ≡ moved_rows moved (insert left at row)
come_is left at row moved place kept =
    with_row_is (moved_rows moved left) row at (rw (labels-moved left moved) place)
    ∙ sym (moved-insert moved left at row ∙ ap (λ (r : Row). insert (moved_rows moved left) at r) (ap (λ (s : Slot). record row { slot = s }) (kept row.slot)))

-- ---- places of ids

-- a place at which the row has the id is the place of that id
pub place_of_id : (rows : List Row) (at : ℕ) (id : List ℕ) → at < length rows → ((d : Row) → (get_or rows at d).label.order.id ≡ id) → IsPlaceOf (labels_in rows) id at
place_of_id rows at id lt here =
    let many = length-labels rows in
    let s = row_there rows at lt in
    (omega arith, λ d. ap (λ (a : Label). a.order.id) (label_read rows at s.0 d lt s.1 ∙ ap (λ (t : Row). t.label) s.1) ∙ here s.0)

-- where no label has an id, the id has no place
pub no_id : (labels : List Label) (id : List ℕ) → ¬ (HasId labels id) → IsNoId labels id
no_id labels id none j place =
    none (go labels j place.0 place.1)
  where
    go : (labels : List Label) (j : ℕ) → j < length labels → ((d : Label) → (get_or labels j d).order.id ≡ id) → HasId labels id
    go labels j lt is = let s = there labels j lt in (s.0, (j, lt, sym s.1), ap (λ (a : Label). a.order.id) s.1 ∙ is s.0)
      where
        there : (labels : List Label) (j : ℕ) → j < length labels → (a : Label) × (a ≡ get_or labels j a)
        there [] j lt = absurd (omega arith)
        there (a ∷ labels) zero lt = (a, refl)
        there (a ∷ labels) (suc j) lt = there labels j (omega arith)
