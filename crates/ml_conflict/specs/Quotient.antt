use Rattle.std.specs.Prelude.{Option, IfSome}
use Rattle.ml_ratio.specs.Quotient.{IsLow}
use Rattle.ml_ratio.specs.declared.quotient.Quotient.{Quotient}
use Rattle.ml_conflict.specs.Between.{BothAre}

-- the ends of the interval, if there is one, are low quotients
abbrev pub HasLowEnds : Option (Quotient × Option Quotient) → Type 0
HasLowEnds o = IfSome o (BothAre IsLow)
