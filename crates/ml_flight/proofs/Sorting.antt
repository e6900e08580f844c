-- What a sort of places, of stays by their beginnings, and of ends says.
use Rattle.std.proofs.Common.{◌≡◌, ℕ, ◌*◌, ◌<◌, ◌≤◌, List, length, get_or, arith, false, is_lt, nat_cmp}
use Rattle.std.specs.Prelude.{AllPairs}
use Rattle.std.specs.List.Sorted.{IsSortedBy}
use Rattle.std.proofs.lemmas.Bool.Decides.{nat_tests}
use Rattle.std.proofs.lemmas.List.Sorted.{ranks_by, sorted_far}
use Rattle.ml_ratio.specs.Fraction.{value_of, IsAtMost}
use Rattle.ml_ratio.specs.RatioOrder.{ratio_cmp, ratio_total}
use Rattle.ml_ratio.specs.declared.ratio.Ratio.{Ratio}
use Rattle.ml_flight.specs.Stay.{BeginsBy, begin_of}
use Rattle.ml_flight.specs.declared.place.Place.{Place}
use Rattle.ml_flight.specs.declared.stay.Stay.{Stay}
use Rattle.ml_flight.proofs.Places.{place_cmp, place_total, IsNotAfter, up_to_back, begun_of_place, place_of_begun}

-- of elements that are sorted by their places, none lies after a later one
pub sorted_places : {X : Type 0} (key : X → Place) (xs : List X) → IsSortedBy (λ x y. is_lt (place_cmp (key x) (key y))) xs →
    (i j : ℕ) (d : X) → i ≤ j → j < length xs → IsNotAfter (key (get_or xs i d)) (key (get_or xs j d))
sorted_places {X} key xs sorted i j d le lt = sorted_far (λ (x : X) (y : X). is_lt (place_cmp (key x) (key y))) (ranks_by place_total key) xs sorted i j d le lt

-- of stays that are sorted by where they begin, each begins no later than those behind it
pub sorted_begin_by : (stays : List Stay) → IsSortedBy (λ x y. is_lt (place_cmp (begin_of x) (begin_of y))) stays → AllPairs BeginsBy stays
sorted_begin_by stays sorted i j d less lt s begun =
    let a : Stay = get_or stays i d in
    let b : Stay = get_or stays j d in
    begun_of_place s (value_of a.from) a.from_in (up_to_back (begin_of a) (begin_of b) s false
    (sorted_places begin_of stays sorted i j d (omega arith) lt) (place_of_begun s (value_of b.from) b.from_in begun))

not_less : (m n : ℕ) → is_lt (nat_cmp m n) ≡ false → n ≤ m
not_less m n h = grind (arith, nat_tests)

-- of ends that are sorted, each is at most any behind it
pub sorted_ends : (ends : List Ratio) → IsSortedBy (λ x y. is_lt (ratio_cmp x y)) ends → AllPairs (λ a b. IsAtMost (value_of a) (value_of b)) ends
sorted_ends ends sorted i j d less lt =
    let a : Ratio = get_or ends i d in
    let b : Ratio = get_or ends j d in
    not_less (b.num * a.den) (a.num * b.den) (sorted_far (λ (x : Ratio) (y : Ratio). is_lt (ratio_cmp x y)) (ranks_by ratio_total (λ (x : Ratio). x)) ends sorted i j d (omega arith) lt)
