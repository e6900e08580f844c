-- How many entries a label has.
use Rattle.std.proofs.Common.{◌≡◌, ◌≢◌, ◌∙◌, ap, sym, refl, ℕ, zero, suc, ◌+◌, ◌≤◌, arith, List, [], ◌∷◌, Bool, true, false, inl, inr, subst}
use Rattle.std.specs.Prelude.{Contains, ◌⊎◌, ◌↔◌}
use Rattle.std.proofs.lemmas.List.Elements.{All-contains_itself, All-weaker}
use Rattle.std.proofs.lemmas.List.Kept.{AllPairs-cons}
use Rattle.ml_ratio.specs.declared.ratio.Ratio.{Ratio}
use Rattle.ml_cone.specs.Hull.{hull_of}
use Rattle.ml_cone.specs.declared.cells.Cells.{Cells}
use Rattle.ml_cone.specs.declared.label.Label.{Label}
use Rattle.ml_spans.specs.Spans.{entry_of}
use Rattle.ml_grid.specs.Entry.{Entry, IsEntryOf}
use Rattle.ml_grid.specs.Count.{AreCounted, cell_count, cell_in, meets_band, band_count, entries_below, entry_count}
use Rattle.ml_grid.specs.Placed.{IsEntryAmong, IsEntryAt}
use Rattle.ml_grid.proofs.Partial.{IsEntryBelow}
use Rattle.ml_grid.proofs.Sets.{HasFewCells, none_placed, placed_more, not_placed, at_is_placed, none_at, none_below, below_more, below_all}
use Rattle.ml_grid.proofs.Sums.{below_none, below_next, count_met, count_unmet, count_all}

counted_none : (P : Entry → Type 0) → ((e : Entry) → ¬ (P e)) → AreCounted P 0
counted_none P none = record {
  entries = [];
  apart = λ i j d less low. absurd (omega (arith, less, low));
  just_them = λ e. (λ h. absurd (omega (arith, h.1)), λ h. absurd (none e h));
  many = refl;
}

counted_same : (P Q : Entry → Type 0) (n m : ℕ) → AreCounted P n → ((e : Entry) → Q e ↔ P e) → n ≡ m → AreCounted Q m
counted_same P Q n m h r is = record {
  entries = h.entries;
  apart = h.apart;
  just_them = λ e. (λ there. (r e).1 ((h.just_them e).0 there), λ q. (h.just_them e).1 ((r e).0 q));
  many = h.many ∙ is;
}

cons_cases : (x : Entry) (xs : List Entry) (e : Entry) → Contains (x ∷ xs) e → (x ≡ e) ⊎ Contains xs e
cons_cases x xs e (zero, h, is) = inl is
cons_cases x xs e (suc k, h, is) = inr (k, omega arith, is)

cons_later : (x : Entry) (xs : List Entry) (e : Entry) → Contains xs e → Contains (x ∷ xs) e
cons_later x xs e h = (suc h.0, (let m = h.1 in omega arith), h.2)

-- one entry more that was not among them
counted_more : (P R : Entry → Type 0) (n : ℕ) (x : Entry) → AreCounted P n → ¬ (P x) → ((e : Entry) → R e ↔ (P e ⊎ (e ≡ x))) → AreCounted R (n + 1)
counted_more P R n x h new r = record {
  entries = x ∷ h.entries;
  apart = AllPairs-cons (λ e f. e ≢ f) x h.entries
      (All-weaker (Contains h.entries) (λ e. x ≢ e) (λ e there same. new ((h.just_them x).0 (subst (λ (d : Entry). Contains h.entries d) (sym same) there))) h.entries (All-contains_itself h.entries))
      h.apart;
  just_them = λ e. (
    λ there. elim (cons_cases x h.entries e there) [
      | inl same ↦ (r e).1 (inr (sym same))
      | inr later ↦ (r e).1 (inl ((h.just_them e).0 later))
    ],
    λ some. elim ((r e).0 some) [
      | inl old ↦ cons_later x h.entries e ((h.just_them e).1 old)
      | inr is ↦ (0, omega arith, sym is)
    ],
  );
  many = let m = h.many in omega arith;
}

-- first those with one property, then those of the first n cells
counted_placed : (P : Entry → Type 0) (m : ℕ) (number : ℕ) (until : Ratio) (cells : Cells) (n : ℕ) → AreCounted P m →
    ((e : Entry) → IsEntryAmong number until cells n e → ¬ (P e)) → AreCounted (λ e. P e ⊎ IsEntryAmong number until cells n e) (m + n)
counted_placed P m number until cells zero h apart =
    counted_same P (λ e. P e ⊎ IsEntryAmong number until cells 0 e) m (m + 0) h
    (λ e. (λ k. elim k [ inl old ↦ old | inr placed ↦ absurd (none_placed number until cells e placed) ], λ k. inl k)) (omega arith)
counted_placed P m number until cells (suc n) h apart =
    let x = entry_of (cell_in cells n) until number in
    let fewer = counted_placed P m number until cells n h (λ e placed. apart e (placed.0, (let l = placed.1 in omega arith), placed.2)) in
    let more : (e : Entry) → (P e ⊎ IsEntryAmong number until cells (n + 1) e) ↔ ((P e ⊎ IsEntryAmong number until cells n e) ⊎ (e ≡ x)) = λ e.
    (let step = placed_more number until cells n (cell_in cells n) refl e in (
      λ k. elim k [
        | inl old ↦ inl (inl old)
        | inr placed ↦ elim (step.0 placed) [ inl before ↦ inl (inr before) | inr last ↦ inr last ]
      ],
      λ k. elim k [
        | inl before ↦ elim before [ inl old ↦ inl old | inr placed ↦ inr (step.1 (inl placed)) ]
        | inr last ↦ inr (step.1 (inr last))
      ],
    )) in
    let new : ¬ (P x ⊎ IsEntryAmong number until cells n x) = λ k. elim k [
      | inl old ↦ apart x (n, omega arith, refl) old
      | inr placed ↦ not_placed number until cells n placed
    ] in
    let next : n + 1 ≡ suc n = omega arith in
    let all : AreCounted (λ e. P e ⊎ IsEntryAmong number until cells (n + 1) e) ((m + n) + 1) =
    counted_more (λ e. P e ⊎ IsEntryAmong number until cells n e) (λ e. P e ⊎ IsEntryAmong number until cells (n + 1) e) (m + n) x fewer new more in
    counted_same (λ e. P e ⊎ IsEntryAmong number until cells (n + 1) e) (λ e. P e ⊎ IsEntryAmong number until cells (suc n) e) ((m + n) + 1) (m + suc n) all
    (λ e. subst (λ (k : ℕ). (P e ⊎ IsEntryAmong number until cells k e) ↔ (P e ⊎ IsEntryAmong number until cells (n + 1) e)) next (λ k. k, λ k. k)) (omega arith)

bool_cases : (b : Bool) → (b ≡ true) ⊎ (b ≡ false)
bool_cases true = inl refl
bool_cases false = inr refl

-- the label's entries in the bands below k
counted_below : ((a : Label) (k : ℕ) → HasFewCells a k) → (number : ℕ) (a : Label) (until : Ratio) (k : ℕ) → k ≤ 28 → AreCounted (IsEntryBelow number a until k) (entries_below a k)
counted_below few number a until zero low =
    counted_same (IsEntryBelow number a until 0) (IsEntryBelow number a until 0) 0 (entries_below a 0)
    (counted_none (IsEntryBelow number a until 0) (none_below number a until)) (λ e. (λ k. k, λ k. k)) (sym (below_none a))
counted_below few number a until (suc k) low =
    let P = IsEntryBelow number a until k in
    let fewer = counted_below few number a until k (omega arith) in
    let next : k + 1 ≡ suc k = omega arith in
    let sum = below_next a k in
    let more : (e : Entry) → IsEntryBelow number a until (suc k) e ↔ (P e ⊎ IsEntryAt number a until k e) =
    subst (λ (n : ℕ). (e : Entry) → IsEntryBelow number a until n e ↔ (P e ⊎ IsEntryAt number a until k e)) next (below_more number a until k) in
    let many : entries_below a (suc k) ≡ entries_below a k + band_count a k = ap (entries_below a) (sym next) ∙ sum in
    elim (bool_cases (meets_band a k)) [
      | inl met ↦
          let placed = at_is_placed few number a until k (omega arith) met in
          let both = counted_placed P (entries_below a k) number until (hull_of a k) (cell_count (hull_of a k)) fewer
          (λ e there before. (let here = ((placed e).1 there).1 in let l = before.1 in omega arith)) in
          let n = count_met a k met in
          counted_same (λ e. P e ⊎ IsEntryAmong number until (hull_of a k) (cell_count (hull_of a k)) e)
          (IsEntryBelow number a until (suc k)) (entries_below a k + cell_count (hull_of a k)) (entries_below a (suc k)) both
          (λ e. (
            λ h. elim ((more e).0 h) [ inl before ↦ inl before | inr here ↦ inr ((placed e).0 here) ],
            λ h. (more e).1 (elim h [ inl before ↦ inl before | inr there ↦ inr ((placed e).1 there) ]),
          ))
          (omega arith)
      | inr unmet ↦
          let none = none_at number a until k unmet in
          let n = count_unmet a k unmet in
          counted_same P (IsEntryBelow number a until (suc k)) (entries_below a k) (entries_below a (suc k)) fewer
          (λ e. (
            λ h. elim ((more e).0 h) [ inl before ↦ before | inr here ↦ absurd (none e here) ],
            λ h. (more e).1 (inl h),
          ))
          (omega arith)
    ]

-- all of the label's entries
pub counted_all : ((a : Label) (k : ℕ) → HasFewCells a k) → (number : ℕ) (a : Label) (until : Ratio) → AreCounted (IsEntryOf number a until) (entry_count a)
counted_all few number a until =
    counted_same (IsEntryBelow number a until 28) (IsEntryOf number a until) (entries_below a 28) (entry_count a)
    (counted_below few number a until 28 (omega arith)) (below_all number a until) (count_all a)
