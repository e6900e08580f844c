use Rattle.std.proofs.Common.{◌≡◌, ℕ, ◌-◌, max, min}
use Rattle.ml_ratio.specs.Band.{IsInBand}
use Rattle.ml_ratio.specs.Fraction.{value_of}
use Rattle.ml_repair.proofs.NearRosters.{EndsFrom}
use Rattle.ml_repair.proofs.Waking.{SuspectsBelow}
use Rattle.ml_repair.proofs.wake.suspects.Given as goal

abbrev pub invariant-loop-band : goal.invariant-loop-band
invariant-loop-band l = (first : ℕ) × (ends : ℕ) × (begins : ℕ) × (first ≡ max (min ends l.last) begins)
    × EndsFrom ends l.roster × IsInBand (value_of l.label.min) begins × SuspectsBelow l.roster l.label first l.band l.places

abbrev pub decreases-loop-band : goal.decreases-loop-band
decreases-loop-band l = 28 - l.band
