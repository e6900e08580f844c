-- Rows that get new slots, one after another, and the grid's entries, which get them all at once.
use Rattle.std.proofs.Common.{◌≡◌, ◌≢◌, ℕ, zero, suc, ◌<◌, ◌≤◌, List, [], ◌∷◌, length, get_or, drop, map, Contains, inl, inr, refl, sym, ap, ◌∙◌, subst, arith}
use Rattle.std.proofs.lemmas.List.{get_or_default, get_or-map, length-map}
use Rattle.ml_ratio.specs.declared.ratio.Ratio.{Ratio}
use Rattle.ml_cone.specs.declared.slot.Slot.{Slot}
use Rattle.ml_spans.specs.Spans.{with_end, renewed, HaveOwnPlaces}
use Rattle.ml_grid.specs.Entry.{Entry}
use Rattle.ml_store.specs.Moved.{moved_row, moved_rows, end_in}
use Rattle.ml_store.specs.Rows.{numbers_in, number_at, IsFresh, HaveOwnNumbers}
use Rattle.ml_store.specs.Store.{IsIndex, IsEntryIn}
use Rattle.ml_store.specs.Table.{IsRowAt, with_slot}
use Rattle.ml_store.specs.declared.moved.Moved.{Moved}
use Rattle.ml_store.specs.declared.row.Row.{Row}
use Rattle.ml_store.proofs.Fresh.{not_fresh, fresh_removed}
use Rattle.ml_store.proofs.lemmas.Moved.{if_same, if_other, moved_none}
use Rattle.ml_ratio.proofs.lemmas.Lists.{contains_cons, contains_map, map_contains, same_place}

-- ---- one row after another

-- rows get a list of new slots when they get its first one and then all the others
pub moved_cons : (m : Moved) (moved : List Moved) (rows : List Row) → moved_rows (m ∷ moved) rows ≡ moved_rows moved (moved_rows (m ∷ []) rows)
moved_cons m moved [] = refl
moved_cons m moved (r ∷ rows) = ap (λ rs. moved_row (m ∷ moved) r ∷ rs) (moved_cons m moved rows)

none_moved : (m : Moved) (rows : List Row) → ((k : ℕ) (d : Row) → k < length rows → (get_or rows k d).number ≢ m.number) → moved_rows (m ∷ []) rows ≡ rows
none_moved m [] others = refl
none_moved m (r ∷ rows) others =
    ap (λ (s : Slot). (record r { slot = s }) ∷ moved_rows (m ∷ []) rows) (if_other m.number r.number m.slot r.slot (λ e. others 0 r (omega arith) (sym e)))
    ∙ ap (λ rs. r ∷ rs) (none_moved m rows (λ k d lt. others (suc k) d (omega arith)))

one_moved : (m : Moved) (rows : List Row) (at : ℕ) → at < length rows → ((d : Row) → (get_or rows at d).number ≡ m.number) →
    ((k : ℕ) (d : Row) → k < length rows → k ≢ at → (get_or rows k d).number ≢ m.number) → moved_rows (m ∷ []) rows ≡ with_slot rows at m.slot
one_moved m [] at lt here others = absurd (omega arith)
one_moved m (r ∷ rows) zero lt here others =
    ap (λ (s : Slot). (record r { slot = s }) ∷ moved_rows (m ∷ []) rows) (if_same m.number r.number m.slot r.slot (sym (here r)))
    ∙ ap (λ rs. (record r { slot = m.slot }) ∷ rs) (none_moved m rows (λ k d lt. others (suc k) d (omega arith) (λ e. omega arith)))
one_moved m (r ∷ rows) (suc at) lt here others =
    ap (λ (s : Slot). (record r { slot = s }) ∷ moved_rows (m ∷ []) rows) (if_other m.number r.number m.slot r.slot (λ e. others 0 r (omega arith) (λ f. omega arith) (sym e)))
    ∙ ap (λ rs. r ∷ rs) (one_moved m rows at (omega arith) here (λ k d lt ne. others (suc k) d (omega arith) (λ e. omega arith)))

number_is : (rows : List Row) (k : ℕ) (d : Row) → k < length rows → number_at rows k ≡ (get_or rows k d).number
number_is rows k d lt = get_or-map (λ (t : Row). t.number) rows k d 0 lt

-- a new slot for a number that no row has changes no row
pub moved_fresh : (m : Moved) (rows : List Row) → IsFresh m.number rows → moved_rows (m ∷ []) rows ≡ rows
moved_fresh m rows fresh =
    none_moved m rows (λ k d lt e. let many = length-map rows (λ (t : Row). t.number) in
    fresh (k, omega arith, get_or_default (numbers_in rows) k m.number 0 (omega arith) ∙ number_is rows k d lt ∙ e))

-- where rows have numbers of their own, a new slot for the number of the row at a place goes to that row alone
pub moved_at_row : (m : Moved) (rows : List Row) (at : ℕ) → HaveOwnNumbers rows → IsRowAt rows m.number at → moved_rows (m ∷ []) rows ≡ with_slot rows at m.slot
moved_at_row m rows at differ here =
    let many = length-map rows (λ (t : Row). t.number) in
    let lt : at < length rows = here.0 in
    one_moved m rows at here.0 (λ d. sym (number_is rows at d here.0) ∙ here.1)
    (λ k d k_in ne e. ne (same_place (numbers_in rows) k at 0 differ (omega arith) (omega arith) (number_is rows k d k_in ∙ e ∙ sym here.1)))

-- behind the last of the new slots there is none left that changes a row
pub rows_none : (moved : List Moved) (k : ℕ) (rows : List Row) → length moved ≤ k → moved_rows (drop k moved) rows ≡ rows
rows_none [] zero rows le = moved_none rows
rows_none [] (suc k) rows le = moved_none rows
rows_none (m ∷ moved) zero rows le = absurd (omega arith)
rows_none (m ∷ moved) (suc k) rows le = rows_none moved k rows (omega arith)

-- new slots leave the rows their numbers
pub numbers_moved : (moved : List Moved) (rows : List Row) → numbers_in (moved_rows moved rows) ≡ numbers_in rows
numbers_moved moved [] = refl
numbers_moved moved (r ∷ rows) = ap (λ ns. r.number ∷ ns) (numbers_moved moved rows)

-- rows with numbers of their own still have them when all of them get their new slots
pub differ_all_moved : (moved : List Moved) (rows : List Row) → HaveOwnNumbers rows → HaveOwnNumbers (moved_rows moved rows)
differ_all_moved moved rows differ = rw (numbers_moved moved rows) differ

-- ---- the ends of rows by number

differ_rest : (r : Row) (rows : List Row) → HaveOwnNumbers (r ∷ rows) → HaveOwnNumbers rows
differ_rest r rows differ i j d less within = differ (suc i) (suc j) d (omega arith) (omega arith)

-- where rows have numbers of their own, the end that is found by a row's number is that row's
pub end_of_row : (rows : List Row) (r : Row) (n : ℕ) (end : Ratio) → HaveOwnNumbers rows → Contains rows r → r.number ≡ n → end_in rows n end ≡ r.slot.until
end_of_row [] r n end differ there e = absurd (let none = there.1 in omega arith)
end_of_row (s ∷ rows) r n end differ there e = elim (contains_cons s r rows there) [
  | inl same ↦ if_same s.number n s.slot.until (end_in rows n end) (ap (λ (t : Row). t.number) same ∙ e) ∙ ap (λ (t : Row). t.slot.until) same
  | inr later ↦
      let fresh = fresh_removed (s ∷ rows) 0 s differ (omega arith) refl in
      if_other s.number n s.slot.until (end_in rows n end) (λ f. not_fresh rows s.number r fresh later (e ∙ sym f))
      ∙ end_of_row rows r n end (differ_rest s rows differ) later e
]

-- where no row has the number, the end that is given for this case is found
pub end_of_none : (rows : List Row) (n : ℕ) (end : Ratio) → IsFresh n rows → end_in rows n end ≡ end
end_of_none [] n end fresh = refl
end_of_none (s ∷ rows) n end fresh =
    if_other s.number n s.slot.until (end_in rows n end) (λ e. fresh (0, omega arith, e))
    ∙ end_of_none rows n end (λ there. fresh (suc there.0, (let lt : there.0 < length (numbers_in rows) = there.1 in omega arith), there.2))

-- ---- the entries of all rows

module _ (rows : List Row) (entries : List Entry) (differ : HaveOwnNumbers rows) (kept : IsIndex IsEntryIn rows entries) where
  its_end : (e : Entry) → Contains entries e → (end : Ratio) → end_in rows e.value end ≡ e.end
  its_end e there end =
      let some = (kept e).0 there in
      end_of_row rows some.0 e.value end differ some.1 (sym some.2.its_number) ∙ sym some.2.its_end

  -- no two entries are of one cell and one number
  pub own_places : HaveOwnPlaces entries
  own_places a b has_a has_b same_key same_value =
      let same_end : a.end ≡ b.end = sym (its_end a has_a a.end) ∙ ap (λ n. end_in rows n a.end) same_value ∙ its_end b has_b a.end in
      λ i. record { key = same_key i; end = same_end i; value = same_value i }

  -- with the ends that the rows have by now they are the entries of the rows with their new slots
  pub renewed_kept : (moved : List Moved) → IsIndex IsEntryIn (moved_rows moved rows) (map (renewed (end_in (moved_rows moved rows))) entries)
  renewed_kept moved e =
      let after = moved_rows moved rows in
      let next = end_in after in
      let differ_after = differ_all_moved moved rows differ in (
        λ there.
            let was = map_contains (renewed next) entries e there in
            let x : Entry = was.0 in
            let some = (kept x).0 was.1 in
            let r : Row = some.0 in
            let s = moved_row moved r in
            let in_after : Contains after s = contains_map (moved_row moved) rows r some.1 in (
              s,
              in_after,
              subst (IsEntryIn s) was.2 (record {
                in_cell = some.2.in_cell;
                its_end = end_of_row after s x.value x.end differ_after in_after (sym some.2.its_number);
                its_number = some.2.its_number;
              }),
            ),
        λ some.
            let s : Row = some.0 in
            let was = map_contains (moved_row moved) rows s some.1 in
            let r : Row = was.0 in
            let its = subst (λ (t : Row). IsEntryIn t e) (sym was.2) some.2 in
            let x : Entry = with_end r.slot.until e in
            let has : Contains entries x = (kept x).1 (r, was.1, record { in_cell = its.in_cell; its_end = refl; its_number = its.its_number }) in
            let end_is : next x.value x.end ≡ e.end = end_of_row after s x.value x.end differ_after some.1 (sym some.2.its_number) ∙ sym some.2.its_end in
            subst (Contains (map (renewed next) entries)) (ap (λ u. with_end u e) end_is) (contains_map (renewed next) entries x has),
      )
