use Rattle.std.specs.Prelude.{ℕ, ℤ, pos, negsuc, ◌≡◌, ◌⊎◌, ◌≤ℤ◌, ◌+ℤ◌, ◌-ℤ◌, All, Any}
use Rattle.std.specs.List.{fold}
use Rattle.std.specs.Int.{int_min, int_max}
use Rattle.ml_ratio.specs.Fraction.{Fraction}
use Rattle.ml_cone.specs.Overlap.{widened}
use Rattle.ml_cone.specs.Cells.{cell_at, SideInColumns}
use Rattle.ml_cone.specs.declared.cells.Cells.{Cells}
use Rattle.ml_cone.specs.declared.label.BoxPx.{BoxPx}
use Rattle.ml_cone.specs.declared.label.Label.{Label}

-- the anchor alone
abbrev pub no_reach : BoxPx
no_reach = record { l = pos 0; b = pos 0; r = pos 0; t = pos 0 }

-- the least box that holds both
abbrev pub join : BoxPx → BoxPx → BoxPx
join a p = record { l = int_min a.l p.l; b = int_min a.b p.b; r = int_max a.r p.r; t = int_max a.t p.t }

-- the least box that holds the anchor and all boxes, each widened by the label's margin: its left is the least of 0 and all their lefts, its right the greatest of 0 and all their rights, and so on
unfoldable pub reach_of : Label → BoxPx
reach_of a = fold (λ all p. join all (widened a p)) no_reach a.boxes

-- where the anchors of labels lie that reach to `other` at most and meet a label that reaches to `own`, seen from its anchor
abbrev pub area_of : BoxPx → BoxPx → BoxPx
area_of own other = record { l = own.l -ℤ other.r; b = own.b -ℤ other.t; r = own.r -ℤ other.l; t = own.t -ℤ other.b }

-- the cells of band k from that of the lower left corner of the reach to that of its upper right corner
abbrev pub cells_of : ℤ → ℤ → BoxPx → ℕ → Cells
cells_of x y p k =
    record { band = k; x0 = cell_at x p.l k; y0 = cell_at y p.b k; x1 = cell_at x p.r k; y1 = cell_at y p.t k }

-- the label's hull in band k
unfoldable pub hull_of : Label → ℕ → Cells
hull_of a k = cells_of a.x a.y (reach_of a) k

-- at the scale s the rectangle that the box covers about the label's anchor lies within the cells
abbrev pub BoxInCells : Label → Cells → Fraction → BoxPx → Type 0
BoxInCells a cells s p =
    SideInColumns a.x p.l p.r cells.band cells.x0 cells.x1 s × SideInColumns a.y p.b p.t cells.band cells.y0 cells.y1 s

-- at the scale s the cells hold all that the label covers with its boxes widened by its margin
abbrev pub HoldLabel : Cells → Label → Fraction → Type 0
HoldLabel cells a s = All (λ p. BoxInCells a cells s (widened a p)) a.boxes

-- between one and four columns, or rows
abbrev pub AreFew : ℤ → ℤ → Type 0
AreFew c d = (c ≤ℤ d) × (d ≤ℤ (c +ℤ pos 3))

-- the box a holds the box p
pub record Holds (a p : BoxPx) : Type 0 where
  pub l : a.l ≤ℤ p.l
  pub b : a.b ≤ℤ p.b
  pub r : p.r ≤ℤ a.r
  pub t : p.t ≤ℤ a.t

-- a side that reaches over 0, up to 576 pixels to either hand
pub record IsStretch (l r : ℤ) : Type 0 where
  pub from : negsuc 575 ≤ℤ l
  pub left : l ≤ℤ pos 0
  pub right : pos 0 ≤ℤ r
  pub until : r ≤ℤ pos 576

-- both sides of the box reach over 0
pub record IsExtent (a : BoxPx) : Type 0 where
  pub wide : IsStretch a.l a.r
  pub high : IsStretch a.b a.t

-- the number is 0, or this side of some box of the label, widened by its margin
abbrev pub IsZeroOrSide : (BoxPx → ℤ) → Label → ℤ → Type 0
IsZeroOrSide side a n = (n ≡ pos 0) ⊎ Any (λ p. side (widened a p) ≡ n) a.boxes

-- the box holds the label's anchor and all its boxes, widened by its margin, and each of its sides is that of one of them: no less box holds them
pub record IsLeastReach (a : Label) (reach : BoxPx) : Type 0 where
  pub anchor : Holds reach no_reach
  pub boxes : All (λ p. Holds reach (widened a p)) a.boxes
  pub l_is : IsZeroOrSide (λ p. p.l) a reach.l
  pub b_is : IsZeroOrSide (λ p. p.b) a reach.b
  pub r_is : IsZeroOrSide (λ p. p.r) a reach.r
  pub t_is : IsZeroOrSide (λ p. p.t) a reach.t
