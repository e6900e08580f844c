use Rattle.std.specs.Prelude.{Option, Some, None, MatchOption, IfSome}
use Rattle.ml_ratio.specs.Fraction.{Fraction, IsLess}

-- An open interval is a lower end and perhaps an upper one. Its ends may be of any kind; `value` gives the fraction that an end stands for.

-- s is below the end; no end is beyond all
abbrev pub IsUnder : {A : Type 0} → (A → Fraction) → Option A → Fraction → Type 0
IsUnder value None s = Unit {0}
IsUnder value (Some h) s = IsLess s (value h)

-- s lies between the ends
abbrev pub LiesBetween : {A : Type 0} → (A → Fraction) → A × Option A → Fraction → Type 0
LiesBetween value i s = IsLess (value i.0) s × IsUnder value i.1 s

-- s lies in the interval, if there is one
abbrev pub LiesIn : {A : Type 0} → (A → Fraction) → Option (A × Option A) → Fraction → Type 0
LiesIn value None s = ⊥
LiesIn value (Some i) s = LiesBetween value i s

-- the lower end lies below the upper one, so that some scale lies between
abbrev pub LeavesRoom : {A : Type 0} → (A → Fraction) → A × Option A → Type 0
LeavesRoom value i = MatchOption i.1 (Unit {0}) (λ h. IsLess (value i.0) (value h))

-- the lower end is of the kind, and the upper one if there is one
abbrev pub BothAre : {A : Type 0} → (A → Type 0) → A × Option A → Type 0
BothAre Kind i = Kind i.0 × IfSome i.1 Kind
