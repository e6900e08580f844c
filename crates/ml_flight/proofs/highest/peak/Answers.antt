use Rattle.std.proofs.Common.{List, length, arith, sym, subst, false}
use Rattle.std.specs.Prelude.{AllPairs, IsPermutation}
use Rattle.ml_ratio.specs.Fraction.{value_of, IsAtMost}
use Rattle.ml_ratio.specs.declared.ratio.Ratio.{Ratio}
use Rattle.ml_flight.specs.Sweep.{IsHighest}
use Rattle.ml_flight.specs.declared.place.Place.{Place}
use Rattle.ml_flight.proofs.Sorting.{sorted_places, sorted_ends}
use Rattle.ml_flight.proofs.Peaks.{ended_low, few_open, bound, is_peak}
use Rattle.ml_flight.proofs.highest.peak.Goals as goal

pub highest-requires-clause-order : goal.highest-requires-clause-order
highest-requires-clause-order c =
    subst (λ (l : List Ratio). AllPairs (λ a b. IsAtMost (value_of a) (value_of b)) l) (sym c.as_slice-2.ensures.value) (sorted_ends c.sort_unstable-2.new.self.items c.sort_unstable-2.ensures.sorted)

pub highest-requires-clause-ended : goal.highest-requires-clause-ended
highest-requires-clause-ended c =
    rw (c.as_slice.ensures.value, c.as_slice-2.ensures.value) (
    let begins = c.sort_unstable.new.self.items in
    ended_low c.args.all.now begins c.sort_unstable-2.new.self.items c.requires.apart
    (sorted_places (λ (p : Place). p) begins c.sort_unstable.ensures.sorted)
    (subst (λ (l : List Place). IsPermutation l begins) c.in_ok-marks.ensures.begins c.sort_unstable.ensures.permutation)
    (subst (λ (l : List Ratio). IsPermutation l c.sort_unstable-2.new.self.items) c.in_ok-marks.ensures.ends c.sort_unstable-2.ensures.permutation))

pub highest-requires-clause-few : goal.highest-requires-clause-few
highest-requires-clause-few c =
    rw (c.as_slice.ensures.value, c.as_slice-2.ensures.value) (λ k d lt.
    let begins = c.sort_unstable.new.self.items in
    let low = few_open c.args.all.now begins c.sort_unstable-2.new.self.items c.requires.apart
    (sorted_places (λ (p : Place). p) begins c.sort_unstable.ensures.sorted)
    (subst (λ (l : List Place). IsPermutation l begins) c.in_ok-marks.ensures.begins c.sort_unstable.ensures.permutation)
    (subst (λ (l : List Ratio). IsPermutation l c.sort_unstable-2.new.self.items) c.in_ok-marks.ensures.ends c.sort_unstable-2.ensures.permutation) k d lt in
    omega (arith, low))

pub returns-clause-peak : goal.returns-clause-peak
returns-clause-peak c =
    let begins = c.sort_unstable.new.self.items in
    let ends = c.sort_unstable-2.new.self.items in
    let highest : IsHighest begins ends (length begins) c.highest.result = rw (← c.as_slice.ensures.value, ← c.as_slice-2.ensures.value) c.highest.ensures in
    is_peak c.args.all.now begins ends c.requires.apart
    (sorted_places (λ (p : Place). p) begins c.sort_unstable.ensures.sorted)
    (subst (λ (l : List Place). IsPermutation l begins) c.in_ok-marks.ensures.begins c.sort_unstable.ensures.permutation)
    (subst (λ (l : List Ratio). IsPermutation l ends) c.in_ok-marks.ensures.ends c.sort_unstable-2.ensures.permutation) c.highest.result highest

pub returns-clause-most : goal.returns-clause-most
returns-clause-most c s n =
    let begins = c.sort_unstable.new.self.items in
    let ends = c.sort_unstable-2.new.self.items in
    let highest : IsHighest begins ends (length begins) c.highest.result = rw (← c.as_slice.ensures.value, ← c.as_slice-2.ensures.value) c.highest.ensures in
    bound c.args.all.now begins ends c.requires.apart
    (sorted_places (λ (p : Place). p) begins c.sort_unstable.ensures.sorted)
    (subst (λ (l : List Place). IsPermutation l begins) c.in_ok-marks.ensures.begins c.sort_unstable.ensures.permutation)
    (subst (λ (l : List Ratio). IsPermutation l ends) c.in_ok-marks.ensures.ends c.sort_unstable-2.ensures.permutation) c.highest.result highest s false n
