use Rattle.std.proofs.Common.{ℕ, ◌-◌}
use Rattle.ml_ratio.specs.Band.{IsInBand}
use Rattle.ml_ratio.specs.Fraction.{value_of}
use Rattle.ml_repair.proofs.Waking.{MeetingBelow}
use Rattle.ml_repair.proofs.wake.near_suspects.Given as goal

abbrev pub invariant-loop-band : goal.invariant-loop-band
invariant-loop-band l = (begins : ℕ) × IsInBand (value_of l.label.min) begins × MeetingBelow l.roster l.label begins l.band l.places

abbrev pub decreases-loop-band : goal.decreases-loop-band
decreases-loop-band l = 28 - l.band
