-- Rows whose labels are within an outline, as one comes, goes or has another slot.
use Rattle.std.proofs.Common.{◌≡◌, ℕ, zero, suc, ◌<◌, List, [], ◌∷◌, length, get_or}
use Rattle.std.specs.Prelude.{insert, remove}
use Rattle.std.proofs.lemmas.List.Elements.{All-cons, All-head, All-tail, All-weaker}
use Rattle.ml_cone.specs.Outline.{IsWithin}
use Rattle.ml_cone.specs.declared.label.Label.{Label}
use Rattle.ml_cone.specs.declared.outline.Outline.{Outline}
use Rattle.ml_cone.specs.declared.slot.Slot.{Slot}
use Rattle.ml_store.specs.Store.{AreWithin}
use Rattle.ml_store.specs.Table.{with_slot}
use Rattle.ml_store.specs.declared.row.Row.{Row}
use Rattle.ml_store.proofs.Lists.{all_longer, all_shorter}
use Rattle.ml_ratio.proofs.lemmas.Lists.{added_insert, added_remove}

-- when a row comes in, all labels are within an outline that has room for its label and for all that the old one had room for
pub within_inserted : (o next : Outline) (rows : List Row) (at : ℕ) (row : Row) → IsWithin next row.label →
    ((a : Label) → IsWithin o a → IsWithin next a) → AreWithin o rows → AreWithin next (insert rows at row)
within_inserted o next rows at row new kept within =
    all_longer (λ (r : Row). IsWithin next r.label) (added_insert rows at row) new
    (All-weaker (λ (r : Row). IsWithin o r.label) (λ (r : Row). IsWithin next r.label) (λ r h. kept r.label h) rows within)

-- when a row goes, the labels of the others are still within the outline
pub within_removed : (o : Outline) (rows : List Row) (at : ℕ) (row : Row) → at < length rows → row ≡ get_or rows at row → AreWithin o rows → AreWithin o (remove rows at)
within_removed o rows at row lt read within = all_shorter (λ (r : Row). IsWithin o r.label) (added_remove rows at row lt read) within

-- when a row gets another slot, all labels are still within the outline
pub within_slotted : (o : Outline) (rows : List Row) (at : ℕ) (slot : Slot) → AreWithin o rows → AreWithin o (with_slot rows at slot)
within_slotted o [] at slot within = within
within_slotted o (r ∷ rows) zero slot within =
    All-cons (λ (r : Row). IsWithin o r.label) (record r { slot = slot }) rows (All-head (λ (r : Row). IsWithin o r.label) r rows within) (All-tail (λ (r : Row). IsWithin o r.label) r rows within)
within_slotted o (r ∷ rows) (suc at) slot within =
    All-cons (λ (r : Row). IsWithin o r.label) r (with_slot rows at slot) (All-head (λ (r : Row). IsWithin o r.label) r rows within)
    (within_slotted o rows at slot (All-tail (λ (r : Row). IsWithin o r.label) r rows within))
