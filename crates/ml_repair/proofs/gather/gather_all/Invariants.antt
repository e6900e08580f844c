use Rattle.std.proofs.Common.{ℕ, ◌-◌}
use Rattle.ml_ratio.specs.Band.{IsInBand}
use Rattle.ml_ratio.specs.Fraction.{value_of}
use Rattle.ml_repair.proofs.Gathering.{GatheredBands}
use Rattle.ml_repair.proofs.gather.gather_all.Given as goal

abbrev pub invariant-loop-band : goal.invariant-loop-band
invariant-loop-band l = (first : ℕ) × IsInBand (value_of l.sought.low.now.min) first × GatheredBands l.sought first l.band l.bound l.places

abbrev pub decreases-loop-band : goal.decreases-loop-band
decreases-loop-band l = 28 - l.band
