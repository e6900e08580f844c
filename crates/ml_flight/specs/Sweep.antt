use Rattle.std.specs.Prelude.{ℕ, ◌≡◌, ◌+◌, ◌-◌, ◌*◌, ◌<◌, ◌≤◌, ◌⊎◌, Bool, true, nat_le, count_by, map, flat_map, List, slice_index_or}
use Rattle.ml_ratio.specs.Fraction.{Fraction, value_of}
use Rattle.ml_ratio.specs.declared.ratio.Ratio.{Ratio}
use Rattle.ml_flight.specs.Stay.{begin_of}
use Rattle.ml_flight.specs.declared.place.Peak.{Peak}
use Rattle.ml_flight.specs.declared.place.Place.{Place}
use Rattle.ml_flight.specs.declared.stay.Stay.{Stay}

-- where the stays of all labels begin
abbrev pub begins_of : List (List Stay) → List Place
begins_of all = flat_map (λ stays. map begin_of stays) all

-- where they end
abbrev pub ends_of : List (List Stay) → List Ratio
ends_of all = flat_map (λ stays. map (λ stay. stay.to) stays) all

-- whether the end is at most m
abbrev pub is_ended : Fraction → Ratio → Bool
is_ended m e = nat_le (e.num * m.den) (m.num * e.den)

-- how many of the ends are at most m
abbrev pub ended : List Ratio → Fraction → ℕ
ended ends m = count_by (is_ended m) ends

-- how many stays are open once the first k + 1 have begun: those that have not ended by the mark of the last of them
abbrev pub open_at : List Place → List Ratio → ℕ → Place → ℕ
open_at begins ends k d = (k + 1) - ended ends (value_of (slice_index_or begins k d).mark)

-- no stay is open, just after 0
abbrev pub IsStart : Peak → Type 0
IsStart peak = (peak.count ≡ 0) × (peak.mark.num ≡ 0) × (peak.after ≡ true)

-- the peak is the first of the first n places with its count
pub record IsFirstReached (begins : List Place) (ends : List Ratio) (n : ℕ) (peak : Peak) : Type 0 where
  pub k : ℕ
  pub low : k < n
  pub mark : (d : Place) → peak.mark ≡ (slice_index_or begins k d).mark
  pub after : (d : Place) → peak.after ≡ (slice_index_or begins k d).after
  pub count : (d : Place) → peak.count ≡ open_at begins ends k d
  pub some : 0 < peak.count
  pub first : (j : ℕ) (d : Place) → j < k → open_at begins ends j d < peak.count

-- of the first n places, the peak is the first where the most stays are open, and just after 0 where none is ever open
pub record IsHighest (begins : List Place) (ends : List Ratio) (n : ℕ) (peak : Peak) : Type 0 where
  pub greatest : (j : ℕ) (d : Place) → j < n → open_at begins ends j d ≤ peak.count
  pub reached : IsStart peak ⊎ IsFirstReached begins ends n peak
