-- The longest free gaps of labels: their text, and a view under them.
use Rattle.std.specs.Prelude.{ℕ, ◌≡◌, List, [], ◌∷◌, ◌++◌, map, None, codes}
use Rattle.ml_ratio.specs.Ratio.{ratio_text}
use Rattle.ml_cone.specs.declared.label.Label.{Label}
use Rattle.ml_cone.specs.declared.slot.Slot.{Slot}
use Rattle.ml_cone.specs.declared.view.View.{View}
use Rattle.ml_gaps.specs.Gaps.{AreGaps, AreShownGaps}
use Rattle.ml_gaps.specs.declared.gap.Gap.{Gap}
use Rattle.ml_command.specs.ViewLine.{view_line}

-- the line of a label: its id, where its gap begins and where it ends
abbrev pub gap_line : List ℕ → Gap → List ℕ
gap_line id gap = id ++ (codes " " ++ (ratio_text gap.from ++ (codes " " ++ (ratio_text gap.until ++ codes "\n"))))

-- a line for each label
abbrev pub gap_lines : List Label → List Gap → List ℕ
gap_lines [] gaps = []
gap_lines (label ∷ labels) [] = []
gap_lines (label ∷ labels) (gap ∷ gaps) = gap_line label.order.id gap ++ gap_lines labels gaps

-- the text lists the longest free gaps of labels
pub record IsGapsOf (labels : List Label) (text : List ℕ) : Type 0 where
  pub gaps : List Gap
  pub are : AreGaps labels gaps
  pub lines : text ≡ gap_lines labels gaps

-- a slot that ends where the gap does, with no blocker
abbrev pub slot_of : Gap → Slot
slot_of gap = record { until = gap.until; blocker = None }

-- the text is the line of a view of labels: exactly those whose longest free gap holds the scale, each until that gap ends, and of which a box meets the window
pub record IsGapViewOf (labels : List Label) (view : View) (text : List ℕ) : Type 0 where
  pub gaps : List Gap
  pub places : List ℕ
  pub are : AreGaps labels gaps
  pub shown : AreShownGaps labels gaps view places
  pub line : text ≡ view_line labels (map slot_of gaps) places view.scale
