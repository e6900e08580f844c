-- The order of places, and what does not lie after a place.
use Rattle.std.proofs.Common.{◌≡◌, ℕ, ◌*◌, ◌<◌, arith, Bool, true, false, not, Ordering, is_lt, nat_cmp, inl, inr, if◌then◌else◌}
use Rattle.std.specs.Prelude.{MatchBool, nat_le, nat_lt}
use Rattle.std.specs.Cmp.{IsTotalOrder, bool_cmp_total}
use Rattle.std.specs.Ordering.{ordering_then, bool_cmp}
use Rattle.std.proofs.lemmas.Bool.{cases_order}
use Rattle.std.proofs.lemmas.Bool.Decides.{nat_tests}
use Rattle.std.proofs.lemmas.Cmp.{on_total, then_total}
use Rattle.std.specs.declared.cmp.Ordering.TheVariants.{Less, Equal}
use Rattle.ml_ratio.specs.Fraction.{Fraction, value_of, IsLess, IsAtMost}
use Rattle.ml_ratio.specs.RatioOrder.{ratio_total}
use Rattle.ml_ratio.proofs.lemmas.Fractions.{less_at_most, at_most_less, at_most_trans}
use Rattle.ml_flight.specs.declared.place.Place.{Place}

-- places are compared by their marks, and at one mark by whether they lie after it
abbrev pub place_cmp : Place → Place → Ordering
place_cmp p q = ordering_then (nat_cmp (p.mark.num * q.mark.den) (q.mark.num * p.mark.den)) (bool_cmp p.after q.after)

-- places are in a total order
pub place_total : IsTotalOrder place_cmp
place_total = then_total (on_total (λ (p : Place). p.mark) ratio_total) (on_total (λ (p : Place). p.after) bool_cmp_total)

-- the first place is not after the second
abbrev pub IsNotAfter : Place → Place → Type 0
IsNotAfter p q = is_lt (place_cmp q p) ≡ false

-- the place p does not lie after the one at m, or just after m where `after` says so
abbrev pub UpTo : Fraction → Bool → Place → Type 0
UpTo m true p = IsAtMost (value_of p.mark) m
UpTo m false p = MatchBool p.after (IsLess (value_of p.mark) m) (IsAtMost (value_of p.mark) m)

-- whether p does not lie after that place, as a test
abbrev pub up_to : Fraction → Bool → Place → Bool
up_to m true p = nat_le (p.mark.num * m.den) (m.num * p.mark.den)
up_to m false p = if p.after then nat_lt (p.mark.num * m.den) (m.num * p.mark.den) else nat_le (p.mark.num * m.den) (m.num * p.mark.den)

-- a place that passes the test does not lie after that one
pub up_to_holds : (m : Fraction) (after : Bool) (p : Place) → up_to m after p ≡ true → UpTo m after p
up_to_holds m true p h = grind (arith, nat_tests)
up_to_holds m false p h = go p.after h
  where
    go : (b : Bool) → (if b then nat_lt (p.mark.num * m.den) (m.num * p.mark.den) else nat_le (p.mark.num * m.den) (m.num * p.mark.den)) ≡ true →
        MatchBool b (IsLess (value_of p.mark) m) (IsAtMost (value_of p.mark) m)
    go true k = grind (arith, nat_tests)
    go false k = grind (arith, nat_tests)

-- a place that does not lie after that one passes the test
pub up_to_test : (m : Fraction) (after : Bool) (p : Place) → UpTo m after p → up_to m after p ≡ true
up_to_test m true p h = grind (arith, nat_tests)
up_to_test m false p h = go p.after h
  where
    go : (b : Bool) → MatchBool b (IsLess (value_of p.mark) m) (IsAtMost (value_of p.mark) m) →
        (if b then nat_lt (p.mark.num * m.den) (m.num * p.mark.den) else nat_le (p.mark.num * m.den) (m.num * p.mark.den)) ≡ true
    go true k = grind (arith, nat_tests)
    go false k = grind (arith, nat_tests)

-- a place whose mark is below m lies neither after m nor after what is just after m
pub up_to_above : (m : Fraction) (after : Bool) (p : Place) → IsLess (value_of p.mark) m → UpTo m after p
up_to_above m true p h = omega arith
up_to_above m false p h = go p.after
  where
    go : (b : Bool) → MatchBool b (IsLess (value_of p.mark) m) (IsAtMost (value_of p.mark) m)
    go true = h
    go false = omega arith

is_less : (m n : ℕ) → m < n → nat_cmp m n ≡ Less
is_less m n h = grind (arith, nat_tests)

is_equal : (m n : ℕ) → m ≡ n → nat_cmp m n ≡ Equal
is_equal m n h = grind (arith, nat_tests)

-- of two places at one mark
at_one : (a b : Bool) (f g m : Fraction) → is_lt (bool_cmp b a) ≡ false → g.num * f.den ≡ f.num * g.den → MatchBool b (IsLess g m) (IsAtMost g m) → MatchBool a (IsLess f m) (IsAtMost f m)
at_one true true f g m k same h = at_most_less f g m (omega arith) h
at_one true false f g m k same h = absurd (cc)
at_one false true f g m k same h = at_most_trans f g m (omega arith) (omega arith)
at_one false false f g m k same h = at_most_trans f g m (omega arith) h

-- a place that does not lie after one at m has a mark of at most m
pub up_to_at_most : (m : Fraction) (after : Bool) (p : Place) → UpTo m after p → IsAtMost (value_of p.mark) m
up_to_at_most m true p h = h
up_to_at_most m false p h = go p.after h
  where
    go : (b : Bool) → MatchBool b (IsLess (value_of p.mark) m) (IsAtMost (value_of p.mark) m) → IsAtMost (value_of p.mark) m
    go true k = omega arith
    go false k = k

-- what is not after a place that is up to (m, after) is up to it
pub up_to_back : (p q : Place) (m : Fraction) (after : Bool) → IsNotAfter p q → UpTo m after q → UpTo m after p
up_to_back p q m after order h =
    elim (cases_order (q.mark.num * p.mark.den) (p.mark.num * q.mark.den)) [
      | inl same ↦ here after (rw (is_equal (q.mark.num * p.mark.den) (p.mark.num * q.mark.den) same) at order) same h
      | inr (inl less) ↦ absurd (let k = rw (is_less (q.mark.num * p.mark.den) (p.mark.num * q.mark.den) less) at order in cc)
      | inr (inr more) ↦ up_to_above m after p (less_at_most (value_of p.mark) (value_of q.mark) m more (up_to_at_most m after q h))
    ]
  where
    here : (after : Bool) → is_lt (bool_cmp q.after p.after) ≡ false → q.mark.num * p.mark.den ≡ p.mark.num * q.mark.den → UpTo m after q → UpTo m after p
    here true k same h = at_most_trans (value_of p.mark) (value_of q.mark) m (omega arith) h
    here false k same h = at_one p.after q.after (value_of p.mark) (value_of q.mark) m k same h

-- the mark of a place that is not after another is not above its mark
pub marks_rise : (p q : Place) → IsNotAfter p q → IsAtMost (value_of p.mark) (value_of q.mark)
marks_rise p q order = up_to_back p q (value_of q.mark) true order (let h : IsAtMost (value_of q.mark) (value_of q.mark) = omega arith in h)

-- a stay from f on has begun at m where its place, just after f if f is not counted in, is no later than m
pub begun_of_place : (m f : Fraction) (b : Bool) → MatchBool (not b) (IsLess f m) (IsAtMost f m) → MatchBool b (IsAtMost f m) (IsLess f m)
begun_of_place m f true h = h
begun_of_place m f false h = h

-- the place of a stay from f on that has begun at m, just after f if f is not counted in, is no later than m
pub place_of_begun : (m f : Fraction) (b : Bool) → MatchBool b (IsAtMost f m) (IsLess f m) → MatchBool (not b) (IsLess f m) (IsAtMost f m)
place_of_begun m f true h = h
place_of_begun m f false h = h
