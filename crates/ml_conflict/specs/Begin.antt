use Rattle.ml_ratio.specs.Fraction.{Fraction, value_of, IsLess, IsAtMost, IsScale}
use Rattle.ml_cone.specs.Choice.{IsLimit, Allows}
use Rattle.ml_cone.specs.declared.label.Label.{Label}

-- no scale of K lies from `start` on, below f and below u
unfoldable pub Clear : (Fraction → Type 0) → Fraction → Fraction → Fraction → Type 0
Clear K start u f = (s : Fraction) → IsScale s → IsAtMost start s → IsLess s f → IsLess s u → ¬ (K s)

-- just above f all lies in K and below u
unfoldable pub Covers : (Fraction → Type 0) → Fraction → Fraction → Type 0
Covers K u f = (t : Fraction) × IsLess f t × ((s : Fraction) → IsLess f s → IsLess s t → IsLess s u × K s)

-- from `start` on and below u, f is where K begins; it is the bound where K does not begin below that
pub record Begins (K : Fraction → Type 0) (start u bound f : Fraction) : Type 0 where
  pub from : IsAtMost start f
  pub to : IsAtMost f bound
  pub clear : Clear K start u f
  pub covers : IsLess f bound → Covers K u f

-- f is the limit that `high`, active until u, sets `low`, where that is below the bound; else it is the bound, which is allowed
pub record IsBlock (low high : Label) (u bound f : Fraction) : Type 0 where
  pub to : IsAtMost f bound
  pub limit : IsLess f bound → IsLimit low high u f
  pub allowed : IsAtMost bound f → Allows low high u bound

-- a limit below the maximum that `high`, active until u, sets `low` lies above the bound
abbrev pub SetsNoneUpTo : Label → Label → Fraction → Fraction → Type 0
SetsNoneUpTo low high u bound = (f : Fraction) → IsLimit low high u f → IsLess f (value_of low.max) → IsLess bound f
