-- The labels that an edit is planned over: the live ones but one that is passed over, and one that is to come.
use Rattle.std.specs.Prelude.{ℕ, ◌≡◌, ◌+◌, ◌<◌, ◌≤◌, List, length, All, insert, remove, slice_index_or, Option, Some, None, Contains, ◌⊎◌, ◌↔◌}
use denote.Ref.{Bor}
use Rattle.ml_ratio.specs.Fraction.{value_of, IsAtMost}
use Rattle.ml_ratio.specs.declared.ratio.Ratio.{Ratio}
use Rattle.ml_cone.specs.Slots.{ends}
use Rattle.ml_cone.specs.Outline.{OverlapIn}
use Rattle.ml_store.specs.Rows.{labels_in, slots_in}
use Rattle.ml_store.specs.Search.{IsFoundIn}
use Rattle.ml_store.specs.Table.{IsRowAt}
use Rattle.ml_cone.specs.declared.label.Label.{Label}
use Rattle.ml_store.specs.declared.row.Row.{Row}

-- the rows but that which is passed over
abbrev pub left_rows : Option ℕ → List Row → List Row
left_rows None rows = rows
left_rows (Some at) rows = remove rows at

-- the rows, and one that is to come, at its place
abbrev pub joined_rows : Option (Bor Row) → ℕ → List Row → List Row
joined_rows None at rows = rows
joined_rows (Some row) at rows = insert rows at row.now

-- a search for the label in band k finds that at the place
abbrev pub IsFoundAt : List Row → Label → ℕ → ℕ → Type 0
IsFoundAt rows a k p = (p < length rows) × ((d : Label) → IsFoundIn a (slice_index_or (labels_in rows) p d) k)

-- places came in: only some of the list, and among them each that a search for the label in band k finds
pub record AreFound (rows : List Row) (a : Label) (k : ℕ) (before after : List ℕ) : Type 0 where
  pub kept : (p : ℕ) → Contains before p → Contains after p
  pub sound : (p : ℕ) → Contains after p → Contains before p ⊎ (p < length rows)
  pub whole : (p : ℕ) → IsFoundAt rows a k p → Contains after p

-- the label overlaps that at the place in band k
abbrev pub OverlapsAt : List Row → Label → ℕ → ℕ → Type 0
OverlapsAt rows a k p = (p < length rows) × ((d : Label) → OverlapIn a (slice_index_or (labels_in rows) p d) k)

-- places of the list, among them each of a label that the label overlaps in band k, and whose own slot ends at the scale at the earliest
pub record AreOverlapped (rows : List Row) (a : Label) (k : ℕ) (scale : Ratio) (places : List ℕ) : Type 0 where
  pub within : All (λ p. p < length rows) places
  pub whole : (p : ℕ) → OverlapsAt rows a k p → IsAtMost (value_of scale) (ends (slots_in rows) p) → Contains places p

-- places came in: only some of the list, and among them each of a label that the label overlaps in a band from k on and before m
pub record AreMet (rows : List Row) (a : Label) (k m : ℕ) (before after : List ℕ) : Type 0 where
  pub kept : (p : ℕ) → Contains before p → Contains after p
  pub sound : (p : ℕ) → Contains after p → Contains before p ⊎ (p < length rows)
  pub whole : (p n : ℕ) → k ≤ n → n < m → OverlapsAt rows a n p → Contains after p

-- of the labels before place i that the label overlaps in any of the bands from k to m none has an own slot that ends at the scale or later
abbrev pub NoneBefore : List Row → Label → ℕ → ℕ → ℕ → Ratio → Type 0
NoneBefore rows a i k m scale = (p n : ℕ) → p < i → k ≤ n → n ≤ m → OverlapsAt rows a n p → ¬ (IsAtMost (value_of scale) (ends (slots_in rows) p))

-- the places of the numbers came in, and nothing else changed
abbrev pub PlacesCame : List Row → List ℕ → List ℕ → List ℕ → Type 0
PlacesCame rows numbers before after = (p : ℕ) → Contains after p ↔ (Contains before p ⊎ ((n : ℕ) × Contains numbers n × IsRowAt rows n p))

-- the place of the list without the one that goes is that of the list with it
abbrev pub IsPlaceWithout : Option ℕ → ℕ → ℕ → Type 0
IsPlaceWithout None at p = p ≡ at
IsPlaceWithout (Some g) at p = ((at < g) × (p ≡ at)) ⊎ ((g ≤ p) × (at ≡ p + 1))
