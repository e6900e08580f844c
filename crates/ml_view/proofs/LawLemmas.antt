-- The laws of what views show.
use Rattle.std.proofs.Common.{ℕ, ◌≢◌, ◌<◌, List, get_or, inl, inr, subst, ◌∙◌, arith}
use Rattle.std.specs.Prelude.{Contains}
use Rattle.std.proofs.lemmas.Bool.{cases_order}
use Rattle.std.proofs.lemmas.List.{get_or_default}
use Rattle.ml_ratio.specs.Fraction.{Fraction, value_of, IsAtMost, IsSame}
use Rattle.ml_ratio.proofs.lemmas.Fractions.{at_most_trans, at_most_less}
use Rattle.ml_cone.specs.Choice.{Choice, ActiveUntil, Allows, IsConflictFree}
use Rattle.ml_cone.specs.Overlap.{BoxesOverlap, Overlap}
use Rattle.ml_cone.specs.Shown.{IsInView, IsShown, AreShown}
use Rattle.ml_cone.specs.declared.label.Label.{Label}
use Rattle.ml_cone.specs.declared.label.BoxPx.{BoxPx}
use Rattle.ml_cone.specs.declared.view.View.{View}

-- a label whose place is listed is shown
listed_shown : (labels : List Label) (c : Choice) (v : View) (places : List ℕ) → AreShown labels c v places → (i : ℕ) → Contains places i → IsShown labels c v i
listed_shown labels c v places are i listed =
    subst (λ (j : ℕ). IsShown labels c v j) (get_or_default places listed.0 0 i listed.1 ∙ listed.2) (are.sound listed.0 listed.1)

-- the place of a label that is shown is listed
shown_listed : (labels : List Label) (c : Choice) (v : View) (places : List ℕ) → AreShown labels c v places → (i : ℕ) → IsShown labels c v i → Contains places i
shown_listed labels c v places are i is =
    let found = are.whole i is in
    (found.0, found.1, get_or_default places found.0 i 0 found.1 ∙ found.2)

-- two boxes overlap in either order
boxes_turned : (a : Label) (p : BoxPx) (b : Label) (q : BoxPx) (s : Fraction) → BoxesOverlap a p b q s → BoxesOverlap b q a p s
unfolding BoxesOverlap
boxes_turned a p b q s both = ((both.0.1, both.0.0), (both.1.1, both.1.0))

-- two labels overlap in either order
overlap_turned : (a b : Label) (s : Fraction) → Overlap a b s → Overlap b a s
unfolding Overlap
overlap_turned a b s both =
    let other = both.4 in
    (other.0, other.1, other.2, other.3, (both.0, both.1, both.2, both.3, boxes_turned a both.1 b other.1 s other.4))

-- of two labels that are active at a scale, the later does not overlap the earlier
later_clear : (labels : List Label) (c : Choice) (v : View) → IsConflictFree labels c → (j i : ℕ) (d : Label) → j < i →
    IsShown labels c v j → IsShown labels c v i → ¬ (Overlap (get_or labels i d) (get_or labels j d) (value_of v.scale))
unfolding Allows
later_clear labels c v free j i d less early late = free j i d less late.0 (value_of v.scale) v.above (late.1 d).0 (early.1 d).0

-- no two labels that a view shows overlap at the view's scale
pub l1 : (labels : List Label) (c : Choice) (v : View) (places : List ℕ) → IsConflictFree labels c → AreShown labels c v places →
    (i j : ℕ) (d : Label) → Contains places i → Contains places j → i ≢ j → ¬ (Overlap (get_or labels i d) (get_or labels j d) (value_of v.scale))
l1 labels c v places free are i j d i_listed j_listed differ both =
    let i_shown = listed_shown labels c v places are i i_listed in
    let j_shown = listed_shown labels c v places are j j_listed in
    elim (cases_order i j) [
      | inl same ↦ differ same
      | inr apart ↦ elim apart [
        | inl less ↦ later_clear labels c v free i j d less i_shown j_shown (overlap_turned (get_or labels i d) (get_or labels j d) (value_of v.scale) both)
        | inr more ↦ later_clear labels c v free j i d more j_shown i_shown both
      ]
    ]

-- an active label is active at the same scale otherwise written
active_same : (a : Label) (e s t : Fraction) → IsSame s t → ActiveUntil a e s → ActiveUntil a e t
active_same a e s t same active =
    let up : IsAtMost s t = omega arith in
    let down : IsAtMost t s = omega arith in
    (at_most_trans (value_of a.min) s t active.0 up, at_most_less t s e down active.1)

-- a label that one view shows, and another of the same scale does not, has no box in the window of the other
pub l2 : (labels : List Label) (c : Choice) (v w : View) (in_v in_w : List ℕ) → IsSame (value_of v.scale) (value_of w.scale) → AreShown labels c v in_v →
    AreShown labels c w in_w → (i : ℕ) (d : Label) → Contains in_v i → ¬ (Contains in_w i) → ¬ (IsInView (get_or labels i d) w)
l2 labels c v w in_v in_w same are_v are_w i d listed missing meets =
    let shown = listed_shown labels c v in_v are_v i listed in
    let there : IsShown labels c w i =
    (shown.0, λ e. (active_same (get_or labels i e) (c i) (value_of v.scale) (value_of w.scale) same (shown.1 e).0, subst (λ (a : Label). IsInView a w) (get_or_default labels i d e shown.0) meets)) in
    missing (shown_listed labels c w in_w are_w i there)
