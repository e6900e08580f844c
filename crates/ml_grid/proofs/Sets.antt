-- Entries that come in and go out, as sets.
use Rattle.std.proofs.Common.{◌≡◌, ◌∙◌, ap, sym, refl, ℕ, ◌+◌, ◌<◌, arith, List, inl, inr, subst, true, false}
use Rattle.std.specs.Prelude.{◌⊎◌, ◌↔◌}
use Rattle.std.proofs.lemmas.Bool.{cases_lt}
use Rattle.ml_ratio.specs.declared.ratio.Ratio.{Ratio}
use Rattle.ml_ratio.specs.Fraction.{value_of}
use Rattle.ml_ratio.specs.Band.{MeetsBand}
use Rattle.std.proofs.lemmas.Bool.{false≢true}
use Rattle.ml_cone.specs.Cell.{IsInCell}
use Rattle.ml_cone.specs.Cells.{IsAmongCells}
use Rattle.ml_cone.specs.Hull.{hull_of, AreFew}
use Rattle.ml_spans.specs.Spans.{entry_of}
use Rattle.ml_cone.specs.declared.cells.Cells.{Cells}
use Rattle.ml_cone.specs.declared.label.Label.{Label}
use Rattle.ml_grid.specs.Cell.{same_cell}
use Rattle.ml_grid.proofs.Sums.{meets_of, of_meets}
use Rattle.ml_grid.specs.Count.{cell_in, cell_count, meets_band}
use Rattle.ml_grid.specs.Entry.{Entry, Adds, LosesEntries, IsEntryOf, IsFree, AreEntriesOf}
use Rattle.ml_grid.specs.Placed.{IsEntryAmong, IsEntryAt}
use Rattle.ml_grid.proofs.Partial.{IsEntryBelow}
use Rattle.ml_grid.specs.declared.cell.Cell.{Cell}
use Rattle.ml_grid.proofs.Places.{place_once, among_at, place_of_cell}

-- nothing comes in
pub adds_none : (P : Entry → Type 0) (a : List Entry) → ((e : Entry) → ¬ (P e)) → Adds P a a
adds_none P a none e = (λ h. inl h, λ h. elim h [ inl old ↦ old | inr new ↦ absurd (none e new) ])

-- first some, then others
pub adds_both : (P Q R : Entry → Type 0) (a b c : List Entry) → Adds P a b → Adds Q b c → ((e : Entry) → R e ↔ (P e ⊎ Q e)) → Adds R a c
adds_both P Q R a b c h k r e = (
  λ new. elim ((k e).0 new) [
    | inl in_b ↦ elim ((h e).0 in_b) [ inl in_a ↦ inl in_a | inr first ↦ inr ((r e).1 (inl first)) ]
    | inr second ↦ inr ((r e).1 (inr second))
  ],
  λ old. elim old [
    | inl in_a ↦ (k e).1 (inl ((h e).1 (inl in_a)))
    | inr some ↦ elim ((r e).0 some) [ inl first ↦ (k e).1 (inl ((h e).1 (inr first))) | inr second ↦ (k e).1 (inr second) ]
  ],
)

-- the same property in other words
pub adds_same : (P Q : Entry → Type 0) (a b : List Entry) → Adds P a b → ((e : Entry) → Q e ↔ P e) → Adds Q a b
adds_same P Q a b h r e = (
  λ new. elim ((h e).0 new) [ inl in_a ↦ inl in_a | inr some ↦ inr ((r e).1 some) ],
  λ old. elim old [ inl in_a ↦ (h e).1 (inl in_a) | inr some ↦ (h e).1 (inr ((r e).0 some)) ],
)

-- where no entry has the property, none goes
pub drops_none : (P : Entry → Type 0) (a : List Entry) → ((e : Entry) → ¬ (P e)) → LosesEntries P a a
drops_none P a none e = (λ h. (h, none e), λ h. h.0)

-- where first the entries with one property go and then those with another, those with either one go
pub drops_both : (P Q R : Entry → Type 0) (a b c : List Entry) → LosesEntries P a b → LosesEntries Q b c → ((e : Entry) → R e ↔ (P e ⊎ Q e)) → LosesEntries R a c
drops_both P Q R a b c h k r e = (
  λ left.
      let in_b = (k e).0 left in
      let in_a = (h e).0 in_b.0 in
      (in_a.0, λ some. elim ((r e).0 some) [ inl first ↦ in_a.1 first | inr second ↦ in_b.1 second ]),
  λ old. (k e).1 ((h e).1 (old.0, λ first. old.1 ((r e).1 (inl first))), λ second. old.1 ((r e).1 (inr second))),
)

-- the entries that go are those with the same property in other words
pub drops_same : (P Q : Entry → Type 0) (a b : List Entry) → LosesEntries P a b → ((e : Entry) → Q e ↔ P e) → LosesEntries Q a b
drops_same P Q a b h r e =
    (λ left. let in_a = (h e).0 left in (in_a.0, λ some. in_a.1 ((r e).0 some)), λ old. (h e).1 (old.0, λ some. old.1 ((r e).1 some)))

-- ---- the entries of a hull's cells

-- no entry is in the first 0 cells
pub none_placed : (number : ℕ) (until : Ratio) (cells : Cells) (e : Entry) → ¬ (IsEntryAmong number until cells 0 e)
none_placed number until cells e h = let m = h.1 in omega arith

-- an entry is in one of the first n + 1 cells just if it is in one of the first n or is that of the next cell
pub placed_more : (number : ℕ) (until : Ratio) (cells : Cells) (n : ℕ) (c : Cell) → c ≡ cell_in cells n → (e : Entry) →
    IsEntryAmong number until cells (n + 1) e ↔ (IsEntryAmong number until cells n e ⊎ (e ≡ (entry_of c until number)))
placed_more number until cells n c is e = (
  λ h. elim (cases_lt h.0 n) [
    | inl less ↦ inl (h.0, less, h.2)
    | inr more ↦ let same : h.0 ≡ n = (let m = h.1 in omega arith) in inr (h.2 ∙ ap (λ (k : ℕ). (entry_of (cell_in cells k) until number)) same ∙ ap (λ (d : Cell). (entry_of d until number)) (sym is))
  ],
  λ h. elim h [
    | inl before ↦ (before.0, (let m = before.1 in omega arith), before.2)
    | inr last ↦ (n, omega arith, last ∙ ap (λ (d : Cell). (entry_of d until number)) is)
  ],
)

-- the next cell's entry is not among those before
pub not_placed : (number : ℕ) (until : Ratio) (cells : Cells) (n : ℕ) → ¬ (IsEntryAmong number until cells n (entry_of (cell_in cells n) until number))
not_placed number until cells n h =
    let same : n ≡ h.0 = place_once cells n h.0 (ap (λ (e : Entry). e.key) h.2) in
    let m = h.1 in omega arith

-- ---- the entries of a label's bands

entry_parts : (e : Entry) (c : Cell) (until : Ratio) (number : ℕ) → e.key ≡ c → e.end ≡ until → e.value ≡ number → e ≡ (entry_of c until number)
entry_parts e c until number p q r =
    ap (λ (d : Cell). entry_of d e.end e.value) p ∙ (ap (λ (u : Ratio). entry_of c u e.value) q ∙ ap (λ (n : ℕ). entry_of c until n) r)

-- no entry of a label is in a band below 0
pub none_below : (number : ℕ) (a : Label) (until : Ratio) (e : Entry) → ¬ (IsEntryBelow number a until 0 e)
none_below number a until e h = let m = h.1 in omega arith

-- the label's hull in band k has few columns and few rows
abbrev pub HasFewCells : Label → ℕ → Type 0
HasFewCells a k = AreFew (hull_of a k).x0 (hull_of a k).x1 × AreFew (hull_of a k).y0 (hull_of a k).y1

-- what is placed in the hull of band k is the label's
pub placed_is_entry : ((a : Label) (k : ℕ) → HasFewCells a k) → (number : ℕ) (a : Label) (until : Ratio) (k : ℕ) → k < 28 → MeetsBand k (value_of a.min) (value_of a.max) →
    (e : Entry) → IsEntryAmong number until (hull_of a k) (cell_count (hull_of a k)) e → IsEntryOf number a until e × (e.key.band ≡ k)
unfolding hull_of
placed_is_entry few number a until k low meets e h =
    let among = among_at (hull_of a k) (few a k).0.0 (few a k).1.0 h.0 h.1 in
    let cell : IsInCell a k (cell_in (hull_of a k) h.0).x (cell_in (hull_of a k) h.0).y = record { low = low; meets = meets; among = among } in
    let is = h.2 in (
      subst (λ (d : Entry). IsEntryOf number a until d) (sym is) (record { in_cell = cell; its_end = refl; its_number = refl }),
      ap (λ (d : Entry). d.key.band) is,
    )

-- and the label's entries in band k are placed there
pub entry_is_placed : (number : ℕ) (a : Label) (until : Ratio) (k : ℕ) (e : Entry) → IsEntryOf number a until e → e.key.band ≡ k → IsEntryAmong number until (hull_of a k) (cell_count (hull_of a k)) e
unfolding hull_of
entry_is_placed number a until k e h is =
    let among : IsAmongCells (hull_of a k) e.key.x e.key.y = subst (λ (m : ℕ). IsAmongCells (hull_of a m) e.key.x e.key.y) is h.in_cell.among in
    let place = place_of_cell (hull_of a k) e.key.x e.key.y among in
    let cell : e.key ≡ cell_in (hull_of a k) place.0 = same_cell e.key.band k e.key.x e.key.x e.key.y e.key.y is refl refl ∙ sym place.2 in
    (place.0, place.1, entry_parts e (cell_in (hull_of a k) place.0) until number cell h.its_end h.its_number)

-- the entries of band k are those placed in the hull there, where the band meets the label's range
pub at_is_placed : ((a : Label) (k : ℕ) → HasFewCells a k) → (number : ℕ) (a : Label) (until : Ratio) (k : ℕ) → k < 28 → meets_band a k ≡ true → (e : Entry) →
    IsEntryAt number a until k e ↔ IsEntryAmong number until (hull_of a k) (cell_count (hull_of a k)) e
at_is_placed few number a until k low met e =
    (λ h. entry_is_placed number a until k e h.0 h.1, λ h. placed_is_entry few number a until k low (meets_of a k met) e h)

-- and there are none where it does not
pub none_at : (number : ℕ) (a : Label) (until : Ratio) (k : ℕ) → meets_band a k ≡ false → (e : Entry) → ¬ (IsEntryAt number a until k e)
none_at number a until k unmet e h =
    let met = of_meets a k (subst (λ (m : ℕ). MeetsBand m (value_of a.min) (value_of a.max)) h.1 h.0.in_cell.meets) in
    false≢true (sym unmet ∙ met)

-- an entry of a label is in a band below k + 1 just if it is in a band below k or in band k
pub below_more : (number : ℕ) (a : Label) (until : Ratio) (k : ℕ) (e : Entry) → IsEntryBelow number a until (k + 1) e ↔ (IsEntryBelow number a until k e ⊎ IsEntryAt number a until k e)
below_more number a until k e = (
  λ h. elim (cases_lt e.key.band k) [
    | inl less ↦ inl (h.0, less)
    | inr more ↦ inr (h.0, (let m = h.1 in omega arith))
  ],
  λ h. elim h [
    | inl before ↦ (before.0, (let m = before.1 in omega arith))
    | inr here ↦ (here.0, (let m = here.1 in omega arith))
  ],
)

-- all the label's entries lie in the 28 bands
pub below_all : (number : ℕ) (a : Label) (until : Ratio) (e : Entry) → IsEntryOf number a until e ↔ IsEntryBelow number a until 28 e
below_all number a until e = (λ h. (h, h.in_cell.low), λ h. h.0)

-- ---- the entries of a number

-- what came in under a free number is what has this number
pub added_are_its : (number : ℕ) (a : Label) (until : Ratio) (before after : List Entry) → IsFree number before → Adds (IsEntryOf number a until) before after → AreEntriesOf number a until after
added_are_its number a until before after free adds e = (
  λ h. elim ((adds e).0 h.0) [ inl old ↦ absurd (free e old h.1) | inr own ↦ own ],
  λ own. ((adds e).1 (inr own), own.its_number),
)
