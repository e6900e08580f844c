use Rattle.std.proofs.Common.{ℕ, ◌-◌}
use Rattle.ml_ratio.specs.Band.{IsInBand}
use Rattle.ml_ratio.specs.Fraction.{value_of}
use Rattle.ml_repair.proofs.Gathering.{GatheredBelow}
use Rattle.ml_repair.proofs.gather.gather.Given as goal

abbrev pub invariant-loop-band : goal.invariant-loop-band
invariant-loop-band l = (first : ℕ) × IsInBand (value_of l.sought.low.now.min) first × GatheredBelow l.sought first l.band l.bound l.places

abbrev pub decreases-loop-band : goal.decreases-loop-band
decreases-loop-band l = 28 - l.band
