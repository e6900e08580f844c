-- Labels that a view shows under free gaps do not overlap.
use Rattle.std.proofs.Common.{◌≢◌, ℕ, ◌<◌, List, get_or, inl, inr, subst, ◌∙◌}
use Rattle.std.specs.Prelude.{Contains}
use Rattle.std.proofs.lemmas.Bool.{cases_order}
use Rattle.std.proofs.lemmas.List.{get_or_default}
use Rattle.ml_ratio.specs.Fraction.{Fraction, value_of}
use Rattle.ml_ratio.specs.Ratio.{zero_ratio}
use Rattle.ml_cone.specs.Overlap.{BoxesOverlap, Overlap}
use Rattle.ml_cone.specs.declared.label.BoxPx.{BoxPx}
use Rattle.ml_cone.specs.declared.label.Label.{Label}
use Rattle.ml_cone.specs.declared.view.View.{View}
use Rattle.ml_gaps.specs.Gaps.{AreGaps, IsShownGap, AreShownGaps}
use Rattle.ml_gaps.specs.declared.gap.Gap.{Gap}

-- two boxes, and two labels, overlap in either order
boxes_turned : (a : Label) (p : BoxPx) (b : Label) (q : BoxPx) (s : Fraction) → BoxesOverlap a p b q s → BoxesOverlap b q a p s
unfolding BoxesOverlap
boxes_turned a p b q s both = ((both.0.1, both.0.0), (both.1.1, both.1.0))

overlap_turned : (a b : Label) (s : Fraction) → Overlap a b s → Overlap b a s
unfolding Overlap
overlap_turned a b s both =
    let other = both.4 in
    (other.0, other.1, other.2, other.3, (both.0, both.1, both.2, both.3, boxes_turned a both.1 b other.1 s other.4))

-- a label whose place is listed is shown
listed_shown : (labels : List Label) (gaps : List Gap) (v : View) (places : List ℕ) → AreShownGaps labels gaps v places → (i : ℕ) → Contains places i → IsShownGap labels gaps v i
listed_shown labels gaps v places are i listed =
    subst (λ (j : ℕ). IsShownGap labels gaps v j) (get_or_default places listed.0 0 i listed.1 ∙ listed.2) (are.sound listed.0 listed.1)

-- some gap, as a default
some_gap : Gap
some_gap = record { from = zero_ratio; until = zero_ratio }

-- of two labels that are shown, the later does not overlap the earlier
later_clear : (labels : List Label) (gaps : List Gap) (v : View) → AreGaps labels gaps → (j i : ℕ) (d : Label) → j < i →
    IsShownGap labels gaps v j → IsShownGap labels gaps v i → ¬ (Overlap (get_or labels i d) (get_or labels j d) (value_of v.scale))
later_clear labels gaps v are j i d less early late =
    let best = are.longest i some_gap late.0 in
    best.is_free.free j d some_gap less (value_of v.scale) v.above (late.1 d some_gap).0 (early.1 d some_gap).0

-- two labels that a view shows under the gaps of the list do not overlap at its scale
pub shown_clear : (labels : List Label) (gaps : List Gap) (v : View) (places : List ℕ) → AreGaps labels gaps → AreShownGaps labels gaps v places →
    (i j : ℕ) (d : Label) → Contains places i → Contains places j → i ≢ j → ¬ (Overlap (get_or labels i d) (get_or labels j d) (value_of v.scale))
shown_clear labels gaps v places are shown i j d i_listed j_listed differ both =
    let i_shown = listed_shown labels gaps v places shown i i_listed in
    let j_shown = listed_shown labels gaps v places shown j j_listed in
    elim (cases_order i j) [
      | inl same ↦ differ same
      | inr apart ↦ elim apart [
        | inl less ↦ later_clear labels gaps v are i j d less i_shown j_shown (overlap_turned (get_or labels i d) (get_or labels j d) (value_of v.scale) both)
        | inr more ↦ later_clear labels gaps v are j i d more j_shown i_shown both
      ]
    ]
