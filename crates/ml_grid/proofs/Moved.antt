-- Entries that get another end, as sets.
use Rattle.std.proofs.Common.{◌≡◌, ◌∙◌, ap, sym, refl, ℕ, arith, List, inl, inr}
use Rattle.std.specs.Prelude.{◌⊎◌, ◌↔◌}
use Rattle.ml_ratio.specs.declared.ratio.Ratio.{Ratio}
use Rattle.ml_cone.specs.Hull.{hull_of}
use Rattle.ml_spans.specs.Spans.{entry_of}
use Rattle.ml_cone.specs.declared.cells.Cells.{Cells}
use Rattle.ml_cone.specs.declared.label.Label.{Label}
use Rattle.ml_grid.specs.Count.{cell_in}
use Rattle.ml_grid.specs.Entry.{Entry, Replaces, IsEntryOf, AreEntriesOf}
use Rattle.ml_grid.specs.Placed.{IsEntryAmong}
use Rattle.ml_grid.proofs.Places.{place_once}

-- where no entry has the one property or the other, none goes and none comes in
pub replaces_none : (P Q : Entry → Type 0) (a : List Entry) → ((e : Entry) → ¬ (P e)) → ((e : Entry) → ¬ (Q e)) → Replaces P Q a a
replaces_none P Q a nothing none e = (λ h. inl (h, nothing e), λ h. elim h [ inl old ↦ old.0 | inr new ↦ absurd (none e new) ])

-- first some, then others, of which none came in before
pub replaces_both : (P Q P' Q' R S : Entry → Type 0) (a b c : List Entry) → Replaces P Q a b → Replaces P' Q' b c →
    ((e : Entry) → Q e → ¬ (P' e)) → ((e : Entry) → R e ↔ (P e ⊎ P' e)) → ((e : Entry) → S e ↔ (Q e ⊎ Q' e)) → Replaces R S a c
replaces_both P Q P' Q' R S a b c h k apart r s e = (
  λ new. elim ((k e).0 new) [
    | inl in_b ↦ elim ((h e).0 in_b.0) [
      | inl in_a ↦ inl (in_a.0, λ some. elim ((r e).0 some) [ inl first ↦ in_a.1 first | inr second ↦ in_b.1 second ])
      | inr first ↦ inr ((s e).1 (inl first))
    ]
    | inr second ↦ inr ((s e).1 (inr second))
  ],
  λ old. elim old [
    | inl in_a ↦ (k e).1 (inl ((h e).1 (inl (in_a.0, λ first. in_a.1 ((r e).1 (inl first)))), λ second. in_a.1 ((r e).1 (inr second))))
    | inr some ↦ elim ((s e).0 some) [
      | inl first ↦ (k e).1 (inl ((h e).1 (inr first), apart e first))
      | inr second ↦ (k e).1 (inr second)
    ]
  ],
)

-- the same properties in other words
pub replaces_same : (P Q R S : Entry → Type 0) (a b : List Entry) → Replaces P Q a b → ((e : Entry) → R e ↔ P e) → ((e : Entry) → S e ↔ Q e) → Replaces R S a b
replaces_same P Q R S a b h r s e = (
  λ new. elim ((h e).0 new) [
    | inl old ↦ inl (old.0, λ some. old.1 ((r e).0 some))
    | inr some ↦ inr ((s e).1 some)
  ],
  λ old. elim old [
    | inl in_a ↦ (h e).1 (inl (in_a.0, λ some. in_a.1 ((r e).1 some)))
    | inr some ↦ (h e).1 (inr ((s e).0 some))
  ],
)

-- the next cell's entry is not among those of the cells before, whatever their ends
pub other_cell : (number : ℕ) (from to : Ratio) (cells : Cells) (n : ℕ) (e : Entry) → IsEntryAmong number to cells n e → ¬ (e ≡ entry_of (cell_in cells n) from number)
other_cell number from to cells n e h is =
    let same : n ≡ h.0 = place_once cells n h.0 (ap (λ (d : Entry). d.key) (sym is ∙ h.2)) in
    let m = h.1 in omega arith

-- the entries of a band of the label, by its cells
pub cell_band : (a : Label) (k i : ℕ) → (cell_in (hull_of a k) i).band ≡ k
unfolding hull_of
cell_band a k i = refl

-- what got another end has it
pub moved_are_its : (number : ℕ) (a : Label) (from to : Ratio) (before after : List Entry) → AreEntriesOf number a from before →
    Replaces (IsEntryOf number a from) (IsEntryOf number a to) before after → AreEntriesOf number a to after
moved_are_its number a from to before after its moved e = (
  λ h. elim ((moved e).0 h.0) [ inl old ↦ absurd (old.1 ((its e).0 (old.0, h.1))) | inr own ↦ own ],
  λ own. ((moved e).1 (inr own), own.its_number),
)
