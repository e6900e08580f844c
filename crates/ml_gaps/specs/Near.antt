-- Labels and their ranges, as far as is enough to tell that they lie too far apart to overlap.
use Rattle.std.specs.Prelude.{◌≡◌, ℕ, ◌*◌, ◌<◌, ◌≤◌, List, length, slice_index_or}
use Rattle.ml_ratio.specs.Fraction.{Fraction, value_of}
use Rattle.ml_cone.specs.SiteOf.{IsSiteOf}
use Rattle.ml_cone.specs.declared.label.Label.{Label}
use Rattle.ml_gaps.specs.declared.gap.Gap.{Gap}
use Rattle.ml_gaps.specs.declared.near.Near.{Near}

-- the site is the label's, and the number is at least the fraction
pub record IsNearOf (a : Label) (until : Fraction) (near : Near) : Type 0 where
  pub site : IsSiteOf near.site a
  pub last : until.num ≤ near.last * until.den

-- each of the labels that have a gap has its own, with the end of its gap
pub record AreNears (labels : List Label) (gaps : List Gap) (nears : List Near) : Type 0 where
  pub one_each : length nears ≡ length gaps
  pub own : (k : ℕ) (a : Label) (g : Gap) (n : Near) → k < length gaps →
      IsNearOf (slice_index_or labels k a) (value_of (slice_index_or gaps k g).until) (slice_index_or nears k n)
