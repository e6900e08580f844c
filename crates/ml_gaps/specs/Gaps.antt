use Rattle.std.specs.Prelude.{ℕ, ◌≡◌, ◌<◌, List, length, slice_index, slice_index_or}
use Rattle.ml_ratio.specs.Fraction.{Fraction, value_of, IsScale, IsAtMost, IsSame}
use Rattle.ml_cone.specs.Range.{ActiveBetween}
use Rattle.ml_cone.specs.Overlap.{Overlap}
use Rattle.ml_cone.specs.Shown.{IsInView}
use Rattle.ml_cone.specs.declared.label.Label.{Label}
use Rattle.ml_cone.specs.declared.view.View.{View}
use Rattle.ml_gaps.specs.Gap.{IsActive, IsGapOf, length_of}
use Rattle.ml_gaps.specs.declared.gap.Gap.{Gap}

-- a label that is active from one fraction until another, and another label with its gap, overlap at no scale at which both are active
abbrev pub IsFreeOf : Label → Fraction → Fraction → Label → Gap → Type 0
IsFreeOf a from until b gap = (s : Fraction) → IsScale s → ActiveBetween from until s → IsActive gap s → ¬ (Overlap a b s)

-- the range is a gap of the label at i that is free against the labels before it with their gaps
pub record IsFreeGap (labels : List Label) (gaps : List Gap) (i : ℕ) (from until : Fraction) : Type 0 where
  pub is_gap : (d : Label) → IsGapOf (slice_index_or labels i d) from until
  pub free : (j : ℕ) (d : Label) (e : Gap) → j < i → IsFreeOf (slice_index_or labels i d) from until (slice_index_or labels j d) (slice_index_or gaps j e)

-- of the free gaps of the label at i it is the longest, and of several as long the one that begins first; where none is longer than 0 that is the empty one at the minimum
pub record IsLongestFree (labels : List Label) (gaps : List Gap) (i : ℕ) (from until : Fraction) : Type 0 where
  pub is_free : IsFreeGap labels gaps i from until
  pub longest : (f u : Fraction) → IsFreeGap labels gaps i f u → IsAtMost (length_of f u) (length_of from until)
  pub first : (f u : Fraction) → IsFreeGap labels gaps i f u → IsSame (length_of f u) (length_of from until) → IsAtMost from f

-- the gaps of a list of labels: each label in order has the longest free one
pub record AreGaps (labels : List Label) (gaps : List Gap) : Type 0 where
  pub one_each : length gaps ≡ length labels
  pub longest : (i : ℕ) (e : Gap) → i < length labels →
      IsLongestFree labels gaps i (value_of (slice_index_or gaps i e).from) (value_of (slice_index_or gaps i e).until)

-- the label at i is shown: it is active under its gap at the view's scale, and a box of it meets the view
abbrev pub IsShownGap : List Label → List Gap → View → ℕ → Type 0
IsShownGap labels gaps v i =
    (i < length labels) × ((d : Label) (e : Gap) → IsActive (slice_index_or gaps i e) (value_of v.scale) × IsInView (slice_index_or labels i d) v)

-- the places are those of the shown labels, ascending
pub record AreShownGaps (labels : List Label) (gaps : List Gap) (v : View) (places : List ℕ) : Type 0 where
  pub ascending : (k m : ℕ) → k < m → m < length places → slice_index places k < slice_index places m
  pub sound : (k : ℕ) → k < length places → IsShownGap labels gaps v (slice_index places k)
  pub whole : (i : ℕ) → IsShownGap labels gaps v i → (k : ℕ) × (k < length places) × (slice_index places k ≡ i)
