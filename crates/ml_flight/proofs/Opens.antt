-- Stays that are open at a place: they have begun there and not ended.
use Rattle.std.proofs.Common.{◌≡◌, ℕ, suc, ◌+◌, ◌*◌, ◌≤◌, List, [], ◌∷◌, get_or, map, arith, refl, sym, ◌∙◌, ap, Bool, true, false, not, cond, ◌&&◌, inl, inr}
use Rattle.std.specs.Prelude.{Any, nat_lt, sum_by, count_by}
use Rattle.std.proofs.lemmas.Bool.Decides.{nat_tests}
use Rattle.std.proofs.lemmas.List.Sums.{sum_by-le-sum_by}
use Rattle.ml_ratio.specs.Fraction.{Fraction, value_of, IsLess, IsAtMost}
use Rattle.ml_ratio.proofs.lemmas.Fractions.{less_at_most}
use Rattle.ml_flight.specs.Stay.{HoldsScale, IsApart, AreApart, begin_of}
use Rattle.ml_flight.specs.Sweep.{begins_of, ends_of, is_ended, ended}
use Rattle.ml_flight.specs.declared.place.Place.{Place}
use Rattle.ml_flight.specs.declared.stay.Stay.{Stay}
use Rattle.ml_ratio.proofs.lemmas.Intervals.{before_most, from_up, not_both}
use Rattle.ml_ratio.proofs.lemmas.Anys.{any_none, any_at, any_here, any_there, any_cases}
use Rattle.ml_flight.proofs.Places.{UpTo, up_to, up_to_holds, up_to_test, up_to_above, begun_of_place, place_of_begun}
use Rattle.ml_flight.proofs.Counting.{true_or_false, count_yes, count_no, sum_by-plus, count_by-map, count_by-flat_map}
use Rattle.ml_flight.proofs.HasCounts.{Tells}

-- the stay is open at the place
abbrev pub IsOpen : Fraction → Bool → Stay → Type 0
IsOpen m true stay = IsAtMost (value_of stay.from) m × IsLess m (value_of stay.to)
IsOpen m false stay = HoldsScale stay m

-- a stay is open at a place where its beginning does not lie after the place and its end lies above the mark
pub open_of_place : (m : Fraction) (after : Bool) (stay : Stay) → UpTo m after (begin_of stay) → IsLess m (value_of stay.to) → IsOpen m after stay
open_of_place m true stay h k = (h, k)
open_of_place m false stay h k = (begun_of_place m (value_of stay.from) stay.from_in h, k)

-- where a stay is open, its beginning does not lie after the place, and its end lies above the mark
pub place_of_open : (m : Fraction) (after : Bool) (stay : Stay) → IsOpen m after stay → UpTo m after (begin_of stay) × IsLess m (value_of stay.to)
place_of_open m true stay h = h
place_of_open m false stay h = (place_of_begun m (value_of stay.from) stay.from_in h.0, h.1)

-- whether the stay is open there
abbrev pub is_open : Fraction → Bool → Stay → Bool
is_open m after stay = up_to m after (begin_of stay) && not (is_ended m stay.to)

is_ended_of : (m : Fraction) (stay : Stay) → IsAtMost (value_of stay.to) m → is_ended m stay.to ≡ true
is_ended_of m stay h = grind (arith, nat_tests)

not_ended_of : (m : Fraction) (stay : Stay) → IsLess m (value_of stay.to) → is_ended m stay.to ≡ false
not_ended_of m stay h = grind (arith, nat_tests)

ended_holds : (m : Fraction) (stay : Stay) → is_ended m stay.to ≡ true → IsAtMost (value_of stay.to) m
ended_holds m stay h = grind (arith, nat_tests)

not_ended_holds : (m : Fraction) (stay : Stay) → is_ended m stay.to ≡ false → IsLess m (value_of stay.to)
not_ended_holds m stay h = grind (arith, nat_tests)

-- what has ended has begun before
ended_begun : (m : Fraction) (stay : Stay) → IsAtMost (value_of stay.to) m → IsLess (value_of stay.from) m
ended_begun m stay h = less_at_most (value_of stay.from) (value_of stay.to) m stay.some h

both_true : (a b : Bool) → (a && b) ≡ true → (a ≡ true) × (b ≡ true)
both_true true true h = (refl, refl)
both_true true false h = absurd (cc)
both_true false b h = absurd (cc)

not_true : (b : Bool) → not b ≡ true → b ≡ false
not_true true h = absurd (cc)
not_true false h = refl

-- a stay that passes the test is open at the place
pub is_open_holds : (m : Fraction) (after : Bool) (stay : Stay) → is_open m after stay ≡ true → IsOpen m after stay
is_open_holds m after stay h =
    let two = both_true (up_to m after (begin_of stay)) (not (is_ended m stay.to)) h in
    open_of_place m after stay (up_to_holds m after (begin_of stay) two.0) (not_ended_holds m stay (not_true (is_ended m stay.to) two.1))

-- a stay that is open at the place passes the test
pub is_open_test : (m : Fraction) (after : Bool) (stay : Stay) → IsOpen m after stay → is_open m after stay ≡ true
is_open_test m after stay h =
    let two = place_of_open m after stay h in
    rw (up_to_test m after (begin_of stay) two.0, not_ended_of m stay two.1) refl

-- a stay has begun at a place where it is open there or has ended
balance_one : (m : Fraction) (after : Bool) (stay : Stay) → cond (is_open m after stay) 1 0 + cond (is_ended m stay.to) 1 0 ≡ cond (up_to m after (begin_of stay)) 1 0
balance_one m after stay =
    elim (true_or_false (is_ended m stay.to)) [
      | inl yes' ↦ rw (yes', up_to_test m after (begin_of stay) (up_to_above m after (begin_of stay) (ended_begun m stay (ended_holds m stay yes')))) refl
      | inr no' ↦ elim (true_or_false (up_to m after (begin_of stay))) [ inl begun ↦ rw (no', begun) refl | inr early ↦ rw (no', early) refl ]
    ]

-- how many stays of all labels are open there
abbrev pub opens : Fraction → Bool → List (List Stay) → ℕ
opens m after all = sum_by (λ stays. count_by (is_open m after) stays) all

-- the stays that are open at a place, and those that have ended by its mark, are together all that have begun by it
pub balance : (m : Fraction) (after : Bool) (all : List (List Stay)) → opens m after all + ended (ends_of all) m ≡ count_by (up_to m after) (begins_of all)
balance m after all =
    let to = λ (stay : Stay). stay.to in
    let one = count_by-flat_map (is_ended m) (λ (stays : List Stay). map to stays) all in
    let two = count_by-flat_map (up_to m after) (λ (stays : List Stay). map begin_of stays) all in
    let each = λ (stays : List Stay).
    (ap (λ (n : ℕ). count_by (is_open m after) stays + n) (count_by-map (is_ended m) to stays)
    ∙ (sum_by-plus (λ (s : Stay). cond (is_open m after s) 1 0) (λ (s : Stay). cond (is_ended m s.to) 1 0) (λ (s : Stay). cond (up_to m after (begin_of s)) 1 0) (balance_one m after) stays
    ∙ sym (count_by-map (up_to m after) begin_of stays))) in
    ap (λ (n : ℕ). opens m after all + n) one
    ∙ (sum_by-plus (λ (stays : List Stay). count_by (is_open m after) stays) (λ (stays : List Stay). count_by (is_ended m) (map to stays))
    (λ (stays : List Stay). count_by (up_to m after) (map begin_of stays)) each all
    ∙ sym two)

-- whether the place has a mark below m
abbrev pub is_below : Fraction → Place → Bool
is_below m p = nat_lt (p.mark.num * m.den) (m.num * p.mark.den)

-- a place that passes the test has a mark below m
pub below_holds : (m : Fraction) (p : Place) → is_below m p ≡ true → IsLess (value_of p.mark) m
below_holds m p h = grind (arith, nat_tests)

-- a place that has a mark below m passes the test
pub below_test : (m : Fraction) (p : Place) → IsLess (value_of p.mark) m → is_below m p ≡ true
below_test m p h = grind (arith, nat_tests)

ended_below_one : (m : Fraction) (stay : Stay) → cond (is_ended m stay.to) 1 0 ≤ cond (is_below m (begin_of stay)) 1 0
ended_below_one m stay =
    elim (true_or_false (is_ended m stay.to)) [
      | inl yes' ↦ rw (yes', below_test m (begin_of stay) (ended_begun m stay (ended_holds m stay yes'))) (omega arith)
      | inr no' ↦ rw no' (omega arith)
    ]

-- no more have ended at m than have begun below it
pub ended_below : (m : Fraction) (all : List (List Stay)) → ended (ends_of all) m ≤ count_by (is_below m) (begins_of all)
ended_below m all =
    let to = λ (stay : Stay). stay.to in
    let one = count_by-flat_map (is_ended m) (λ (stays : List Stay). map to stays) all in
    let two = count_by-flat_map (is_below m) (λ (stays : List Stay). map begin_of stays) all in
    let each : (stays : List Stay) → count_by (is_ended m) (map to stays) ≤ count_by (is_below m) (map begin_of stays) =
    λ stays. rw (count_by-map (is_ended m) to stays, count_by-map (is_below m) begin_of stays)
    (sum_by-le-sum_by (λ (s : Stay). cond (is_ended m s.to) 1 0) (λ (s : Stay). cond (is_below m (begin_of s)) 1 0) stays (ended_below_one m)) in
    rw (one, two) (sum_by-le-sum_by (λ (stays : List Stay). count_by (is_ended m) (map to stays)) (λ (stays : List Stay). count_by (is_below m) (map begin_of stays)) all each)

-- of stays that do not join, at most one is open at a place
not_two_open : (m : Fraction) (after : Bool) (a b : Stay) → IsApart a b → IsOpen m after a → IsOpen m after b → ⊥
not_two_open m true a b apart one two =
    let gap : IsAtMost (value_of a.to) (value_of b.from) = before_most b.from_in (value_of b.from) (value_of a.to) apart in
    let h : IsLess m m = less_at_most m (value_of b.from) m (less_at_most m (value_of a.to) (value_of b.from) one.1 gap) two.0 in
    omega arith
not_two_open m false a b apart one two =
    let up : IsAtMost m (value_of a.to) = (let h : IsLess m (value_of a.to) = one.1 in omega arith) in
    not_both b.from_in (value_of b.from) (value_of a.to) apart (from_up b.from_in (value_of b.from) m (value_of a.to) two.0 up)

-- of stays that do not join at most one is open at a place, so their number tells whether one is
pub one_or_none : (m : Fraction) (after : Bool) (stays : List Stay) → AreApart stays → Tells (λ l. Any (IsOpen m after) l) (λ l. count_by (is_open m after) l) stays
one_or_none m after [] apart = inr (any_none (IsOpen m after), refl)
one_or_none m after (x ∷ xs) apart =
    let rest = one_or_none m after xs (λ i j d less lt. apart (suc i) (suc j) d (omega arith) (omega arith)) in
    elim (true_or_false (is_open m after x)) [
      | inl yes' ↦
          let here = is_open_holds m after x yes' in
          elim rest [
            | inl some ↦
                let at = any_at (IsOpen m after) xs x some.0 in
                absurd (not_two_open m after x (get_or xs at.0 x) (apart 0 (suc at.0) x (omega arith) (let h = at.1 in omega arith)) here at.2)
            | inr none' ↦ inl (any_here (IsOpen m after) x xs here, (let z = none'.1 in omega (arith, count_yes (is_open m after) x xs yes')))
          ]
      | inr no' ↦ elim rest [
        | inl some ↦ inl (any_there (IsOpen m after) x xs some.0, (let z = some.1 in omega (arith, count_no (is_open m after) x xs no')))
        | inr none' ↦ inr (
          λ any. elim (any_cases (IsOpen m after) x xs any) [
            | inl here ↦ let e = is_open_test m after x here in absurd (cc)
            | inr there ↦ none'.0 there
          ],
          (let z = none'.1 in omega (arith, count_no (is_open m after) x xs no')),
        )
      ]
    ]
