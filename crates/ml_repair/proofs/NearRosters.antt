-- What a search finds in a list of which one row may go, and into which one may come.
use Rattle.std.proofs.Common.{◌≡◌, ◌≢◌, ℕ, zero, suc, ◌+◌, ◌-◌, ◌*◌, ◌^◌, ◌<◌, ◌≤◌, List, [], ◌∷◌, length, get_or, take, Contains, ◌⊎◌, inl, inr, refl, sym, ap, ◌∙◌, subst, arith, Option, Some, None}
use Rattle.std.specs.Prelude.{insert, All, IfSome, IsSome}
use denote.Ref.{Bor}
use Rattle.std.proofs.lemmas.Bool.{cases_lt, cases_eq, false≢true}
use Rattle.std.proofs.lemmas.List.{get_or_default, get_or-map, take_more, take_all}
use Rattle.std.proofs.lemmas.Nat.{mul-le}
use Rattle.std.proofs.Math.Nat.{pow-le-pow_right}
use Rattle.std.proofs.lemmas.List.Edits.{length-insert, get_or-insert_at, get_or-insert_below}
use Rattle.std.proofs.lemmas.List.Elements.{Contains-append_left, Contains-push, Contains-push_cases, All-contains}
use Rattle.ml_ratio.specs.Fraction.{value_of, IsAtMost}
use Rattle.ml_ratio.specs.declared.ratio.Ratio.{Ratio}
use Rattle.ml_cone.specs.Cell.{IsLastBand}
use Rattle.ml_cone.specs.Slots.{no_slot}
use Rattle.ml_cone.specs.Outline.{OverlapIn}
use Rattle.ml_cone.specs.declared.label.Label.{Label}
use Rattle.ml_cone.specs.declared.slot.Slot.{Slot}
use Rattle.ml_store.specs.Numbered.{AreNumbered}
use Rattle.ml_store.specs.Rows.{labels_in, slots_in}
use Rattle.ml_store.specs.Search.{IsFoundIn, IsNumberWith, Gathers, AreOverlapping, AreAcross, NoneOverlaps}
use Rattle.ml_store.specs.Table.{IsRowAt}
use Rattle.ml_store.specs.declared.row.Row.{Row}
use Rattle.ml_repair.specs.Roster.{left_rows, joined_rows, AreFound, AreOverlapped, AreMet, NoneBefore, PlacesCame}
use Rattle.ml_store.proofs.lemmas.Numbered.{numbered_removed}
use Rattle.ml_repair.proofs.Rosters.{joined_above}
use Rattle.ml_ratio.proofs.lemmas.Lists.{map_read, remove_has}

-- at each place of the list stands a row
pub row_there : (rows : List Row) (j : ℕ) → j < length rows → (r : Row) × (r ≡ get_or rows j r)
row_there [] j lt = absurd (omega arith)
row_there (r ∷ rows) zero lt = (r, refl)
row_there (r ∷ rows) (suc j) lt = row_there rows j (omega arith)

-- a row that is left was there before one went
pub left_contains : (gone : Option ℕ) (rows : List Row) (r : Row) → IfSome gone (λ g. g < length rows) → Contains (left_rows gone rows) r → Contains rows r
left_contains None rows r in' there = there
left_contains (Some g) rows r in' there =
    let s = row_there rows g in' in
    remove_has rows g s.0 r in' s.1 there

-- a row of the list is the one that is to come, or one of those that were there
pub row_from : (come : Option (Bor Row)) (at : ℕ) (gone : Option ℕ) (rows : List Row) (p : ℕ) → IfSome gone (λ g. g < length rows) →
    IfSome come (λ row. at ≤ length (left_rows gone rows)) → p < length (joined_rows come at (left_rows gone rows)) →
    (IsSome come × (p ≡ at)) ⊎ ((r : Row) × Contains rows r × (r ≡ get_or (joined_rows come at (left_rows gone rows)) p r))
row_from None at gone rows p in' le lt =
    let s = row_there (left_rows gone rows) p lt in
    inr (s.0, left_contains gone rows s.0 in' (p, lt, sym s.1), s.1)
row_from (Some row) at gone rows p in' le lt =
    let left = left_rows gone rows in
    let long = length-insert left at row.now le in
    elim (cases_lt p at) [
      | inl low ↦
          let s = row_there left p (omega arith) in
          inr (s.0, left_contains gone rows s.0 in' (p, omega arith, sym s.1), s.1 ∙ sym (get_or-insert_below left at row.now s.0 p low le))
      | inr high ↦ elim (cases_eq p at) [
        | inl here ↦ inl (refl, here)
        | inr past ↦
            let more : at < p = (let no : p ≢ at = past in omega arith) in
            let s = row_there left (p - 1) (omega arith) in
            inr (s.0, left_contains gone rows s.0 in' (p - 1, omega arith, sym s.1), s.1 ∙ sym (joined_above row.now at left s.0 p le more))
      ]
    ]

-- the label at a place is that of the row at the place
pub label_read : (rows : List Row) (p : ℕ) (r : Row) (d : Label) → p < length rows → r ≡ get_or rows p r → get_or (labels_in rows) p d ≡ r.label
label_read rows p r d lt read = get_or-map (λ (t : Row). t.label) rows p r d lt ∙ ap (λ (t : Row). t.label) (sym read)

-- the slot at a place is that of the row at the place
pub slot_read : (rows : List Row) (p : ℕ) (r : Row) (d : Slot) → p < length rows → r ≡ get_or rows p r → get_or (slots_in rows) p d ≡ r.slot
slot_read rows p r d lt read = get_or-map (λ (t : Row). t.slot) rows p r d lt ∙ ap (λ (t : Row). t.slot) (sym read)

-- a place that comes is a place of the list
come_within : (come : Option (Bor Row)) (at : ℕ) (gone : Option ℕ) (rows : List Row) →
    IfSome come (λ row. at ≤ length (left_rows gone rows)) → IsSome come → at < length (joined_rows come at (left_rows gone rows))
come_within None at _ rows le some = absurd (false≢true some)
come_within (Some row) at gone rows le some = let long = length-insert (left_rows gone rows) at row.now le in omega arith

module _ (come : Option (Bor Row)) (at : ℕ) (gone : Option ℕ) (rows : List Row) (Q : Row → Type 0) (numbers before middle after : List ℕ)
    (in' : IfSome gone (λ g. g < length rows)) (le : IfSome come (λ row. at ≤ length (left_rows gone rows))) (found : (r : Row) → Contains rows r → Q r → Contains numbers r.number)
    (came : PlacesCame (joined_rows come at (left_rows gone rows)) numbers before middle) (last : Gathers (λ p. IsSome come × (p ≡ at)) middle after) where
  -- what came in are places of the list
  place_there : (p : ℕ) → Contains after p → Contains before p ⊎ (p < length (joined_rows come at (left_rows gone rows)))
  place_there p h =
      elim ((last p).0 h) [
        | inl m ↦ elim ((came p).0 m) [
          | inl old ↦ inl old
          | inr new ↦ inr new.2.0
        ]
        | inr one ↦ inr (rw one.1 (come_within come at gone rows le one.0))
      ]

  -- and the place of each row with the property is among them
  place_found : (p : ℕ) → p < length (joined_rows come at (left_rows gone rows)) → ((r : Row) → r ≡ get_or (joined_rows come at (left_rows gone rows)) p r → Q r) → Contains after p
  place_found p lt has =
      elim (row_from come at gone rows p in' le lt) [
        | inl one ↦ (last p).1 (inr one)
        | inr some ↦
            let r : Row = some.0 in
            let number = found r some.1 (has r some.2) in
            (last p).1 (inl ((came p).1 (inr (r.number, number, (lt, map_read (λ (t : Row). t.number) (joined_rows come at (left_rows gone rows)) p r 0 lt some.2)))))
      ]

-- the places of the labels found in a band, with that of the one to come, have all that a search in the band finds
pub near_found : (come : Option (Bor Row)) (at : ℕ) (gone : Option ℕ) (rows : List Row) (a : Label) (k : ℕ) (numbers before middle after : List ℕ) →
    IfSome gone (λ g. g < length rows) → IfSome come (λ row. at ≤ length (left_rows gone rows)) →
    Gathers (IsNumberWith (λ r. IsFoundIn a r.label k) rows) [] numbers → PlacesCame (joined_rows come at (left_rows gone rows)) numbers before middle →
    Gathers (λ p. IsSome come × (p ≡ at)) middle after → AreFound (joined_rows come at (left_rows gone rows)) a k before after
near_found come at gone rows a k numbers before middle after in' le found came last =
    let all : List Row = joined_rows come at (left_rows gone rows) in
    let just : (r : Row) → Contains rows r → IsFoundIn a r.label k → Contains numbers r.number = λ r there has. (found r.number).1 (inr (r, there, refl, has)) in
    record {
      kept = λ p h. (last p).1 (inl ((came p).1 (inl h)));
      sound = place_there come at gone rows (λ r. IsFoundIn a r.label k) numbers before middle after in' le just came last;
      whole = λ p h. place_found come at gone rows (λ r. IsFoundIn a r.label k) numbers before middle after in' le just came last p h.0
          (λ r read. subst (λ (b : Label). IsFoundIn a b k) (label_read all p r r.label h.0 read) (h.1 r.label));
    }

-- so they have all labels that the label overlaps in one band and that last until a scale
pub overlapping_found : (come : Option (Bor Row)) (at : ℕ) (gone : Option ℕ) (rows : List Row) (a : Label) (k : ℕ) (scale : Ratio) (numbers middle after : List ℕ) →
    IfSome gone (λ g. g < length rows) → IfSome come (λ row. at ≤ length (left_rows gone rows)) →
    AreOverlapping rows a k scale numbers → PlacesCame (joined_rows come at (left_rows gone rows)) numbers [] middle → Gathers (λ p. IsSome come × (p ≡ at)) middle after →
    AreOverlapped (joined_rows come at (left_rows gone rows)) a k scale after
overlapping_found come at gone rows a k scale numbers middle after in' le found came last =
    let all : List Row = joined_rows come at (left_rows gone rows) in
    let just : (r : Row) → Contains rows r → OverlapIn a r.label k × IsAtMost (value_of scale) (value_of r.slot.until) → Contains numbers r.number = λ r there has. found r there has.0 has.1 in
    record {
      within = λ j d lt.
          elim (place_there come at gone rows (λ r. OverlapIn a r.label k × IsAtMost (value_of scale) (value_of r.slot.until)) numbers
          [] middle after in' le just came last (get_or after j d) (j, lt, get_or_default after j (get_or after j d) d lt)) [
            | inl none ↦ absurd (let no : none.0 < 0 = none.1 in omega arith)
            | inr is ↦ is
          ];
      whole = λ p h lasts. place_found come at gone rows (λ r. OverlapIn a r.label k × IsAtMost (value_of scale) (value_of r.slot.until)) numbers [] middle after in' le just came last p h.0
          (λ r read. (
            subst (λ (b : Label). OverlapIn a b k) (label_read all p r r.label h.0 read) (h.1 r.label),
            subst (λ (s : Slot). IsAtMost (value_of scale) (value_of s.until)) (slot_read all p r no_slot h.0 read) lasts,
          ));
    }

-- so they have all labels that the label overlaps in any of several bands
pub across_found : (come : Option (Bor Row)) (at : ℕ) (gone : Option ℕ) (rows : List Row) (a : Label) (k m : ℕ) (numbers before middle after : List ℕ) →
    IfSome gone (λ g. g < length rows) → IfSome come (λ row. at ≤ length (left_rows gone rows)) →
    AreAcross rows a k m numbers → PlacesCame (joined_rows come at (left_rows gone rows)) numbers before middle → Gathers (λ p. IsSome come × (p ≡ at)) middle after →
    AreMet (joined_rows come at (left_rows gone rows)) a k m before after
across_found come at gone rows a k m numbers before middle after in' le found came last =
    let all : List Row = joined_rows come at (left_rows gone rows) in
    let just : (r : Row) → Contains rows r → (n : ℕ) × (k ≤ n) × (n < m) × OverlapIn a r.label n → Contains numbers r.number = λ r there has. found r has.0 there has.1 has.2 has.3 in
    record {
      kept = λ p h. (last p).1 (inl ((came p).1 (inl h)));
      sound = place_there come at gone rows (λ r. (n : ℕ) × (k ≤ n) × (n < m) × OverlapIn a r.label n) numbers before middle after in' le just came last;
      whole = λ p n from upto h. place_found come at gone rows (λ r. (n : ℕ) × (k ≤ n) × (n < m) × OverlapIn a r.label n) numbers before middle after in' le just came last p h.0
          (λ r read. (n, from, upto, subst (λ (b : Label). OverlapIn a b n) (label_read all p r r.label h.0 read) (h.1 r.label)));
    }

-- where no label is to come before a place, those before it are among those that were there
pub clear_before : (come : Option (Bor Row)) (at : ℕ) (gone : Option ℕ) (rows : List Row) (a : Label) (i k m : ℕ) (scale : Ratio) →
    IfSome gone (λ g. g < length rows) → IfSome come (λ row. at ≤ length (left_rows gone rows)) → (IsSome come → i ≤ at) → NoneOverlaps rows a k m scale →
    NoneBefore (joined_rows come at (left_rows gone rows)) a i k m scale
clear_before come at gone rows a i k m scale in' le behind none p n before from upto over lasts =
    let all : List Row = joined_rows come at (left_rows gone rows) in
    elim (row_from come at gone rows p in' le over.0) [
      | inl one ↦ (let h = behind one.0 in let e = one.1 in absurd (omega arith))
      | inr some ↦
          let r : Row = some.0 in
          none r n some.1 from upto (subst (λ (b : Label). OverlapIn a b n) (label_read all p r r.label over.0 some.2) (over.1 r.label))
          (subst (λ (s : Slot). IsAtMost (value_of scale) (value_of s.until)) (slot_read all p r no_slot over.0 some.2) lasts)
    ]

-- a band that a range reaches into is none behind its last one
pub last_after : (a : Label) (k last : ℕ) → k < 28 → (0 < k → 2 ^ k * a.max.den ≤ a.max.num) → IsLastBand a last → k ≤ last
last_after a k last low reaches is =
    elim (cases_lt last k) [
      | inl less ↦
          let p : 2 ^ (last + 1) ≤ 2 ^ k = pow-le-pow_right (omega arith) (omega arith) in
          let q = mul-le (2 ^ (last + 1)) a.max.den (2 ^ k) a.max.den p (omega arith) in
          let r = reaches (omega arith) in
          let t = is.ends (omega arith) in
          absurd (omega arith)
      | inr more ↦ more
    ]

-- in no band before the first the range of a label ends
abbrev pub EndsFrom : ℕ → List Row → Type 0
EndsFrom first rows = (p k : ℕ) → p < length rows → ((d : Label) → IsLastBand (get_or (labels_in rows) p d) k) → first ≤ k

-- where the one that is to come ends no earlier either
pub ends_from : (come : Option (Bor Row)) (at : ℕ) (gone : Option ℕ) (rows : List Row) (first : ℕ) → IfSome gone (λ g. g < length rows) → IfSome come (λ row. at ≤ length (left_rows gone rows)) →
    All (λ r. (k : ℕ) → IsLastBand r.label k → first ≤ k) rows → IfSome come (λ row. (k : ℕ) → IsLastBand row.now.label k → first ≤ k) → EndsFrom first (joined_rows come at (left_rows gone rows))
ends_from come at gone rows first in' le ends come_ends p k lt last =
    elim (row_from come at gone rows p in' le lt) [
      | inl one ↦ ends_here come le one come_ends last
      | inr some ↦
          let r : Row = some.0 in
          All-contains (λ (t : Row). (m : ℕ) → IsLastBand t.label m → first ≤ m) rows r ends some.1 k
          (subst (λ (b : Label). IsLastBand b k) (label_read (joined_rows come at (left_rows gone rows)) p r r.label lt some.2) (last r.label))
    ]
  where
    ends_here : (come : Option (Bor Row)) → IfSome come (λ row. at ≤ length (left_rows gone rows)) → IsSome come × (p ≡ at) → IfSome come (λ row. (j : ℕ) → IsLastBand row.now.label j → first ≤ j) →
        ((d : Label) → IsLastBand (get_or (labels_in (joined_rows come at (left_rows gone rows))) p d) k) → first ≤ k
    ends_here None le one come_ends last = absurd (false≢true one.0)
    ends_here (Some row) le one come_ends last =
        let left = left_rows gone rows in
        let long = length-insert left at row.now le in
        let read : row.now ≡ get_or (insert left at row.now) p row.now = rw one.1 (sym (get_or-insert_at left at row.now row.now le)) in
        come_ends k (subst (λ (b : Label). IsLastBand b k) (label_read (insert left at row.now) p row.now row.now.label (let e = one.1 in omega arith) read) (last row.now.label))

-- ---- places of numbers, a number at a time

-- the places of one more number came in
pub places_more : (rows : List Row) (numbers before places next : List ℕ) (k : ℕ) → k < length numbers → PlacesCame rows (take k numbers) before places →
    Gathers (IsRowAt rows (get_or numbers k 0)) places next → PlacesCame rows (take (k + 1) numbers) before next
places_more rows numbers before places next k lt so_far one p =
    let n : ℕ = get_or numbers k 0 in
    let e = take_more numbers k 0 lt in (
      λ h. elim ((one p).0 h) [
        | inl old ↦ elim ((so_far p).0 old) [
          | inl was ↦ inl was
          | inr some ↦ inr (some.0, rw e (Contains-append_left (take k numbers) (n ∷ []) some.0 some.1), some.2)
        ]
        | inr new ↦ inr (n, rw e (Contains-push (take k numbers) n), new)
      ],
      λ h. elim h [
        | inl was ↦ (one p).1 (inl ((so_far p).1 (inl was)))
        | inr some ↦ elim (Contains-push_cases (take k numbers) n some.0 (rw e at some.1)) [
          | inl old ↦ (one p).1 (inl ((so_far p).1 (inr (some.0, old, some.2))))
          | inr same ↦ (one p).1 (inr (subst (λ (m : ℕ). IsRowAt rows m p) (sym same) some.2))
        ]
      ],
    )

-- once the last number is gone through, the places of all numbers came in
pub places_all : (rows : List Row) (numbers before places : List ℕ) (k : ℕ) → length numbers ≤ k → PlacesCame rows (take k numbers) before places → PlacesCame rows numbers before places
places_all rows numbers before places k le so_far = rw (take_all k numbers le) at so_far

-- ---- a list with one that is to come

-- the rows that are left are not too many, and each has a low number of its own
pub numbered_left : (gone : Option ℕ) (rows : List Row) → IfSome gone (λ g. g < length rows) → AreNumbered rows → AreNumbered (left_rows gone rows)
numbered_left None rows in' numbered = numbered
numbered_left (Some g) rows in' numbered = numbered_removed rows g numbered in'
