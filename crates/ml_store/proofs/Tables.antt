-- The table as rows come, go and get other slots.
use Rattle.std.proofs.Common.{◌≡◌, ℕ, zero, suc, ◌<◌, List, [], ◌∷◌, length, get_or, set, Contains, refl, sym, ap, ◌∙◌, arith}
use Rattle.std.specs.Prelude.{insert, remove, Option, Some, None, MatchOption}
use Rattle.ml_store.specs.Numbers.{IsAt}
use Rattle.std.proofs.lemmas.List.{length-map}
use Rattle.ml_ratio.specs.Lists.{IsAdded}
use Rattle.ml_cone.specs.declared.slot.Slot.{Slot}
use Rattle.ml_store.specs.Rows.{numbers_in, labels_in, HasId, IsFresh, IsNumberOf}
use Rattle.ml_store.specs.Numbered.{AreNumbered}
use Rattle.ml_store.specs.Names.{Name, naming_of, names_in, AreByName, HaveId}
use Rattle.ml_store.specs.Table.{IsTable, IsRowAt, with_slot, slot_at}
use Rattle.ml_store.specs.declared.row.Row.{Row}
use Rattle.ml_ratio.proofs.lemmas.Lists.{contains_map, map_contains, map_insert, map_remove, added_insert}

-- when a row and its name come in, the numbers are still those of the rows in byte order of ids
pub table_in : (rows : List Row) (ids' : List ℕ) (at : ℕ) (r : Row) → AreNumbered (insert rows at r) →
    ((names : List Name) → IsAdded (naming_of r) (names_in rows) names → AreByName names ids') → IsTable (insert rows at r) ids'
table_in rows ids' at r numbered by = record {
  numbered = numbered;
  by_name = rw (map_insert naming_of rows at r) (by (insert (names_in rows) at (naming_of r)) (added_insert (names_in rows) at (naming_of r)));
}

-- when a row and its name go, the numbers are still those of the rows in byte order of ids
pub table_out : (rows : List Row) (ids' : List ℕ) (at : ℕ) → AreNumbered (remove rows at) → AreByName (remove (names_in rows) at) ids' → IsTable (remove rows at) ids'
table_out rows ids' at numbered by = record {
  numbered = numbered;
  by_name = rw (map_remove naming_of rows at) by;
}

-- to write the row that is read at a place back with another slot changes the slot at that place
pub with_slot_is : (rows : List Row) (i : ℕ) (r : Row) (slot : Slot) → i < length rows → r ≡ get_or rows i r → set rows i (record r { slot = slot }) ≡ with_slot rows i slot
with_slot_is [] i r slot lt e = absurd (omega arith)
with_slot_is (s ∷ rows) zero r slot lt e = ap (λ (t : Row). record t { slot = slot } ∷ rows) e
with_slot_is (s ∷ rows) (suc i) r slot lt e = ap (λ zs. s ∷ zs) (with_slot_is rows i r slot (omega arith) e)

-- the slot at a place is that of the row that is read there
pub slot_read : (rows : List Row) (i : ℕ) (r : Row) → i < length rows → r ≡ get_or rows i r → slot_at rows i ≡ r.slot
slot_read [] i r lt e = absurd (omega arith)
slot_read (s ∷ rows) zero r lt e = ap (λ (t : Row). t.slot) (sym e)
slot_read (s ∷ rows) (suc i) r lt e = slot_read rows i r (omega arith) e

-- another slot changes no name
pub names-with_slot : (rows : List Row) (i : ℕ) (slot : Slot) → names_in (with_slot rows i slot) ≡ names_in rows
names-with_slot [] i slot = refl
names-with_slot (r ∷ rows) zero slot = refl
names-with_slot (r ∷ rows) (suc i) slot = ap (λ ns. naming_of r ∷ ns) (names-with_slot rows i slot)

-- another slot changes no number
pub numbers-with_slot : (rows : List Row) (i : ℕ) (slot : Slot) → numbers_in (with_slot rows i slot) ≡ numbers_in rows
numbers-with_slot [] i slot = refl
numbers-with_slot (r ∷ rows) zero slot = refl
numbers-with_slot (r ∷ rows) (suc i) slot = ap (λ ns. r.number ∷ ns) (numbers-with_slot rows i slot)

-- another slot leaves as many rows as there were
pub length-with_slot : (rows : List Row) (i : ℕ) (slot : Slot) → length (with_slot rows i slot) ≡ length rows
length-with_slot [] i slot = refl
length-with_slot (r ∷ rows) zero slot = refl
length-with_slot (r ∷ rows) (suc i) slot = ap suc (length-with_slot rows i slot)

-- when a row gets another slot, each still has a low number of its own
pub numbered_moved : (rows : List Row) (at : ℕ) (slot : Slot) → AreNumbered rows → AreNumbered (with_slot rows at slot)
numbered_moved rows at slot numbered = record {
  few = (let n = length-with_slot rows at slot in let m = numbered.few in omega arith);
  differ = rw (numbers-with_slot rows at slot) numbered.differ;
  low = rw (numbers-with_slot rows at slot) numbered.low;
}

-- when a row gets another slot, the numbers are still those of the rows in byte order of ids
pub table_moved : (rows : List Row) (ids : List ℕ) (at : ℕ) (slot : Slot) → IsTable rows ids → IsTable (with_slot rows at slot) ids
table_moved rows ids at slot t = record {
  numbered = numbered_moved rows at slot t.numbered;
  by_name = rw (names-with_slot rows at slot) t.by_name;
}

-- ---- ids of labels and of names

-- where the name of a row has the id, the label of a row has it
pub label_from_name : (rows : List Row) (id : List ℕ) → HaveId (names_in rows) id → HasId (labels_in rows) id
label_from_name rows id have =
    let s = map_contains naming_of rows have.0 have.1 in
    let r : Row = s.0 in
    (r.label, contains_map (λ (t : Row). t.label) rows r s.1, ap (λ (x : Name). x.id) s.2 ∙ have.2)

-- where the label of a row has the id, the name of a row has it
pub name_from_label : (rows : List Row) (id : List ℕ) → HasId (labels_in rows) id → HaveId (names_in rows) id
name_from_label rows id have =
    let s = map_contains (λ (t : Row). t.label) rows have.0 have.1 in
    let r : Row = s.0 in
    (naming_of r, contains_map naming_of rows r s.1, ap (λ l. l.order.id) s.2 ∙ have.2)

-- where a name of the rows has the number and the id, a label with the id is live under the number
pub number_from_name : (rows : List Row) (id : List ℕ) (n : ℕ) → Contains (names_in rows) (record { number = n; id = id }) → IsNumberOf rows id n
number_from_name rows id n there =
    let s = map_contains naming_of rows (record { number = n; id = id }) there in
    (s.0, s.1, ap (λ (x : Name). x.id) s.2, ap (λ (x : Name). x.number) s.2)

-- what is found among the numbers is found among the rows
pub place_found : (rows : List Row) (numbers : List ℕ) (n : ℕ) (found : Option ℕ) → numbers ≡ numbers_in rows →
    MatchOption found (¬ (Contains numbers n)) (IsAt numbers n) → MatchOption found (IsFresh n rows) (IsRowAt rows n)
place_found rows numbers n None e h = λ there. h (rw e there)
place_found rows numbers n (Some at) e h =
    let many = length-map rows (λ (r : Row). r.number) in
    let lt : at < length numbers = h.0 in
    let long : length numbers ≡ length (numbers_in rows) = ap length e in
    (omega arith, ap (λ ns. get_or ns at 0) (sym e) ∙ h.1)

-- a number that is found by id among names is one of a live label with the id, and where no name has the id, no label has it
pub number_found : (rows : List Row) (id : List ℕ) (found : Option ℕ) →
    MatchOption found (¬ (HaveId (names_in rows) id)) (λ n. Contains (names_in rows) (record { number = n; id = id })) → MatchOption found (¬ (HasId (labels_in rows) id)) (IsNumberOf rows id)
number_found rows id None h = λ have. h (name_from_label rows id have)
number_found rows id (Some n) h = number_from_name rows id n h
