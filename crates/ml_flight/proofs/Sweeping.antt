-- The first place where the most stays are open, one place more at a time.
use Rattle.std.proofs.Common.{◌≡◌, ℕ, ◌+◌, ◌<◌, ◌≤◌, List, get_or, arith, true, inl, inr}
use Rattle.std.specs.Prelude.{AllPairs}
use Rattle.std.specs.List.Sorted.{IsPartitionedBy}
use Rattle.std.proofs.lemmas.Bool.{cases_lt}
use Rattle.std.proofs.lemmas.Bool.Decides.{nat_tests}
use Rattle.ml_ratio.specs.Fraction.{Fraction, value_of, IsAtMost}
use Rattle.ml_ratio.specs.declared.ratio.Ratio.{Ratio}
use Rattle.ml_ratio.proofs.lemmas.Fractions.{at_most_trans}
use Rattle.ml_flight.specs.Sweep.{is_ended, open_at, IsStart, IsHighest}
use Rattle.ml_flight.specs.declared.place.Peak.{Peak}
use Rattle.ml_flight.specs.declared.place.Place.{Place}

-- an end that passes the test is at most m
pub ended_at_most : (m : Fraction) (e : Ratio) → is_ended m e ≡ true → IsAtMost (value_of e) m
ended_at_most m e h = grind (arith, nat_tests)

-- an end of at most m passes the test
pub at_most_ended : (m : Fraction) (e : Ratio) → IsAtMost (value_of e) m → is_ended m e ≡ true
at_most_ended m e h = grind (arith, nat_tests)

-- of ascending ends, those that have ended come first
pub ends_parted : (ends : List Ratio) (m : Fraction) → AllPairs (λ a b. IsAtMost (value_of a) (value_of b)) ends → IsPartitionedBy (is_ended m) ends
ends_parted ends m order i j d le lt h =
    elim (cases_lt i j) [
      | inl less ↦ at_most_ended m (get_or ends i d) (at_most_trans (value_of (get_or ends i d)) (value_of (get_or ends j d)) m (order i j d less lt) (ended_at_most m (get_or ends j d) h))
      | inr more ↦ let e : i ≡ j = omega arith in rw e h
    ]

-- of no places the peak is just after 0, where no stay is open
pub highest_none : (begins : List Place) (ends : List Ratio) (best : Peak) → IsStart best → IsHighest begins ends 0 best
highest_none begins ends best start = record { greatest = λ j d lt. absurd (omega arith); reached = inl start }

-- the next place has no more open stays than the peak, which stays
pub highest_keep : (begins : List Place) (ends : List Ratio) (k : ℕ) (best : Peak) → IsHighest begins ends k best →
    ((d : Place) → open_at begins ends k d ≤ best.count) → IsHighest begins ends (k + 1) best
highest_keep begins ends k best so_far no_more = record {
  greatest = λ j d lt. elim (cases_lt j k) [
    | inl before ↦ so_far.greatest j d before
    | inr here ↦ let e : j ≡ k = omega arith in rw e (no_more d)
  ];
  reached = elim so_far.reached [
    | inl start ↦ inl start
    | inr r ↦ inr (record { k = r.k; low = (let l = r.low in omega arith); mark = r.mark; after = r.after; count = r.count; some = r.some; first = r.first })
  ];
}

-- the next place has more open stays than the peak, and becomes the peak
pub highest_take : (begins : List Place) (ends : List Ratio) (k : ℕ) (best next : Peak) → IsHighest begins ends k best →
    best.count < next.count → ((d : Place) → next.count ≡ open_at begins ends k d) → ((d : Place) → next.mark ≡ (get_or begins k d).mark) →
    ((d : Place) → next.after ≡ (get_or begins k d).after) → IsHighest begins ends (k + 1) next
highest_take begins ends k best next so_far more count mark after = record {
  greatest = λ j d lt. elim (cases_lt j k) [
    | inl before ↦ (let h = so_far.greatest j d before in omega arith)
    | inr here ↦ let e : j ≡ k = omega arith in let c = count d in rw e (omega arith)
  ];
  reached = inr (record { k = k; low = omega arith; mark = mark; after = after; count = count; some = omega arith; first = λ j d lt. (let h = so_far.greatest j d lt in omega arith) });
}
