use Rattle.std.specs.Prelude.{ℕ, ◌<◌, List, length, slice_index_or, Option, MatchOption}
use Rattle.ml_ratio.specs.Fraction.{value_of, IsLess}
use Rattle.ml_ratio.specs.declared.ratio.Ratio.{Ratio}
use Rattle.ml_cone.specs.Choice.{Choice, IsLimit, Blocks}
use Rattle.ml_cone.specs.Slots.{IsBlockerBy, ends, no_slot}
use Rattle.ml_cone.specs.Sound.{HasGoodEnd, AllowsAt, IsCovered, IsSound}
use Rattle.ml_cone.specs.declared.label.Label.{Label}
use Rattle.ml_cone.specs.declared.slot.Slot.{Slot}
use Rattle.ml_cert.specs.declared.verdict.Verdict.{Verdict}
use Rattle.ml_cert.specs.declared.verdict.Verdict.TheVariants.{Best, BadEnd, Clash, Uncovered, BadBlocker}

-- nothing is wrong with the slots of the labels before i
abbrev pub AllSoundBefore : List Label → List Slot → ℕ → Type 0
AllSoundBefore labels slots i = (k : ℕ) → k < i → IsSound labels slots k

-- the labels before j allow the label at i its end
abbrev pub AllAllowBefore : List Label → Choice → ℕ → ℕ → Type 0
AllAllowBefore labels c j i = (k : ℕ) → k < j → AllowsAt labels c k i

-- the label at j is the first before the one at i that does not allow it its end, and f is the limit that it sets
pub record IsClash (labels : List Label) (c : Choice) (i j : ℕ) (f : Ratio) : Type 0 where
  pub earlier : j < i
  pub first : AllAllowBefore labels c j i
  pub refused : ¬ (AllowsAt labels c j i)
  pub limit : (d : Label) → IsLimit (slice_index_or labels i d) (slice_index_or labels j d) (c j) (value_of f)

-- the label at i ends below its maximum, and nothing blocks it
pub record IsUncovered (labels : List Label) (c : Choice) (i : ℕ) : Type 0 where
  pub below : (d : Label) → IsLess (c i) (value_of (slice_index_or labels i d).max)
  pub unblocked : (j : ℕ) → ¬ (Blocks labels c j i)

-- of the labels before j all allow the label at i its end, and `due` is the first of them that blocks it, if any does
pub record IsDue (labels : List Label) (c : Choice) (i j : ℕ) (due : Option ℕ) : Type 0 where
  pub allowed : AllAllowBefore labels c j i
  pub first : MatchOption due ((k : ℕ) → k < j → ¬ (Blocks labels c k i)) (λ m. Blocks labels c m i × ((k : ℕ) → k < m → ¬ (Blocks labels c k i)))

-- the label at i is the first in question: nothing is wrong with the slots before it
pub record IsFirstInQuestion (labels : List Label) (slots : List Slot) (i : ℕ) : Type 0 where
  pub is_label : i < length labels
  pub before : AllSoundBefore labels slots i

-- the verdict on the slots: what the first label with a wrong slot has wrong, the first of the four kinds
abbrev pub IsVerdict : List Label → List Slot → Verdict → Type 0
IsVerdict labels slots Best = (i : ℕ) → i < length labels → IsSound labels slots i
IsVerdict labels slots (BadEnd i) = IsFirstInQuestion labels slots i × ¬ (HasGoodEnd labels (ends slots) i)
IsVerdict labels slots (Clash i j f) =
    IsFirstInQuestion labels slots i × HasGoodEnd labels (ends slots) i × IsClash labels (ends slots) i j f
IsVerdict labels slots (Uncovered i) =
    IsFirstInQuestion labels slots i × HasGoodEnd labels (ends slots) i × AllAllowBefore labels (ends slots) i i
    × IsUncovered labels (ends slots) i
IsVerdict labels slots (BadBlocker i) =
    IsFirstInQuestion labels slots i × HasGoodEnd labels (ends slots) i × AllAllowBefore labels (ends slots) i i
    × IsCovered labels (ends slots) i × ¬ (IsBlockerBy (λ j. j) labels (ends slots) i (slice_index_or slots i no_slot).blocker)
