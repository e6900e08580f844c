-- The sweep over sorted beginnings and ends gives the peak.
use Rattle.std.proofs.Common.{◌≡◌, ℕ, ◌+◌, ◌-◌, ◌*◌, ◌<◌, ◌≤◌, List, length, get_or, map, arith, refl, sym, ◌∙◌, ap, subst, Bool, true, false, not, inl, inr}
use Rattle.std.specs.Prelude.{Any, All, Contains, MatchBool, IsPermutation, count_by, cond}
use Rattle.std.specs.List.Sorted.{IsPartitionedBy}
use Rattle.std.proofs.lemmas.Bool.{cases_lt}
use Rattle.std.proofs.lemmas.List.{get_or_default}
use Rattle.std.proofs.lemmas.List.Elements.{Contains-get_or}
use Rattle.std.proofs.lemmas.List.Sums.{count_by-le-length, sum_by-le-sum_by}
use Rattle.std.proofs.lemmas.List.Sorted.{sum_by-IsPermutation, Contains-permutation, IsPermutation-sym}
use Rattle.ml_ratio.specs.Fraction.{Fraction, value_of, IsLess, IsAtMost, IsScale}
use Rattle.ml_ratio.specs.declared.ratio.Ratio.{Ratio}
use Rattle.ml_ratio.proofs.lemmas.Fractions.{at_most_less, at_most_trans}
use Rattle.ml_flight.specs.Stay.{HaveScale, AreApart, begin_of}
use Rattle.ml_flight.specs.Peak.{HasCount, IsJustAfter, IsPlace, IsCount, ComesBefore, IsPeak}
use Rattle.ml_flight.specs.Sweep.{begins_of, ends_of, is_ended, ended, open_at, IsStart, IsFirstReached, IsHighest}
use Rattle.ml_flight.specs.declared.place.Peak.{Peak}
use Rattle.ml_flight.specs.declared.place.Place.{Place}
use Rattle.ml_flight.specs.declared.stay.Stay.{Stay}
use Rattle.std.proofs.Math.Nat.{mul-pos}
use Rattle.ml_flight.proofs.Sweeping.{ended_at_most, at_most_ended}
use Rattle.ml_flight.proofs.Counting.{true_or_false, counted, below_count}
use Rattle.ml_flight.proofs.HasCounts.{Tells, count_is, has_count, count_low, count_like}
use Rattle.ml_flight.proofs.Places.{IsNotAfter, UpTo, up_to, up_to_holds, up_to_test, up_to_back, up_to_at_most, marks_rise}
use Rattle.ml_flight.proofs.Opens.{IsOpen, is_open, opens, balance, is_below, below_holds, below_test, ended_below, one_or_none}
use Rattle.ml_flight.proofs.Marking.{contained_flat, contained_map, shown_after}

-- what has ended by a mark has ended by a later one
ended_rise_one : (m t : Fraction) (e : Ratio) → IsAtMost m t → cond (is_ended m e) 1 0 ≤ cond (is_ended t e) 1 0
ended_rise_one m t e le =
    elim (true_or_false (is_ended m e)) [
      | inl yes' ↦ rw (yes', at_most_ended t e (at_most_trans (value_of e) m t (ended_at_most m e yes') le)) (omega arith)
      | inr no' ↦ rw no' (omega arith)
    ]

ended_rise : (m t : Fraction) → IsAtMost m t → (ends : List Ratio) → ended ends m ≤ ended ends t
ended_rise m t le ends = sum_by-le-sum_by (λ (e : Ratio). cond (is_ended m e) 1 0) (λ (e : Ratio). cond (is_ended t e) 1 0) ends (λ e. ended_rise_one m t e le)

-- a place is up to itself
up_to_itself : (p : Place) → UpTo (value_of p.mark) p.after p
up_to_itself p = go p.after refl
  where
    go : (b : Bool) → p.after ≡ b → UpTo (value_of p.mark) b p
    go true e = omega arith
    go false e = rw e (let h : IsAtMost (value_of p.mark) (value_of p.mark) = omega arith in h)

-- what comes before a place is not reached by it
not_reached : (m : Fraction) (after : Bool) (p : Place) → ComesBefore m after (value_of p.mark) p.after → UpTo m after p → ⊥
not_reached m after p (inl less) h = go after h
  where
    go : (after : Bool) → UpTo m after p → ⊥
    go true k = omega arith
    go false k = here p.after k
      where
        here : (b : Bool) → MatchBool b (IsLess (value_of p.mark) m) (IsAtMost (value_of p.mark) m) → ⊥
        here true l = omega arith
        here false l = omega arith
not_reached m after p (inr (same, at, later)) h =
    let k : UpTo m false p = subst (λ (b : Bool). UpTo m b p) at h in
    let l : IsLess (value_of p.mark) m = rw later at k in
    omega arith

module _ (all : List (List Stay)) (begins : List Place) (ends : List Ratio) (apart : All AreApart all)
    (rising : (i j : ℕ) (d : Place) → i ≤ j → j < length begins → IsNotAfter (get_or begins i d) (get_or begins j d))
    (same_begins : IsPermutation (begins_of all) begins) (same_ends : IsPermutation (ends_of all) ends) where
  -- how many have begun by a place
  begun : Fraction → Bool → ℕ
  begun m after = count_by (up_to m after) begins

  parted : (m : Fraction) (after : Bool) → IsPartitionedBy (up_to m after) begins
  parted m after i j d le lt h =
      up_to_test m after (get_or begins i d) (up_to_back (get_or begins i d) (get_or begins j d) m after (rising i j d le lt) (up_to_holds m after (get_or begins j d) h))

  sorted_balance : (m : Fraction) (after : Bool) → opens m after all + ended ends m ≡ count_by (up_to m after) begins
  sorted_balance m after =
      let one = sum_by-IsPermutation (λ (p : Place). cond (up_to m after p) 1 0) (begins_of all) begins same_begins in
      let two = sum_by-IsPermutation (λ (e : Ratio). cond (is_ended m e) 1 0) (ends_of all) ends same_ends in
      ap (λ (n : ℕ). opens m after all + n) two ∙ (balance m after all ∙ sym one)

  tells : (m : Fraction) (after : Bool) → All (Tells (λ l. Any (IsOpen m after) l) (λ l. count_by (is_open m after) l)) all
  tells m after k d lt = one_or_none m after (get_or all k d) (apart k d lt)

  -- the number of labels that are open at a place
  pub has_opens : (m : Fraction) (after : Bool) → HasCount (λ l. Any (IsOpen m after) l) all (opens m after all)
  has_opens m after = has_count (λ l. Any (IsOpen m after) l) (λ l. count_by (is_open m after) l) all (tells m after)

  -- the number of labels that are open at a place is the number of stays that are
  pub opens_only : (m : Fraction) (after : Bool) (n : ℕ) → HasCount (λ l. Any (IsOpen m after) l) all n → n ≡ opens m after all
  opens_only m after n h = count_is (λ l. Any (IsOpen m after) l) (λ l. count_by (is_open m after) l) all (tells m after) n h

  -- each beginning is among those up to its own place
  own_begun : (k : ℕ) (d : Place) → k < length begins → k < count_by (up_to (value_of (get_or begins k d).mark) (get_or begins k d).after) begins
  own_begun k d lt =
      let p : Place = get_or begins k d in
      below_count (up_to (value_of p.mark) p.after) begins (parted (value_of p.mark) p.after) k d lt (up_to_test (value_of p.mark) p.after p (up_to_itself p))

  open_low : (k : ℕ) (d : Place) → k < length begins → open_at begins ends k d ≤ opens (value_of (get_or begins k d).mark) (get_or begins k d).after all
  open_low k d lt =
      let p : Place = get_or begins k d in
      omega (arith, own_begun k d lt, sorted_balance (value_of p.mark) p.after)

  -- at no beginning are more stays open than there are labels
  pub few_open : (k : ℕ) (d : Place) → k < length begins → open_at begins ends k d ≤ length all
  few_open k d lt =
      let p : Place = get_or begins k d in
      omega (arith, open_low k d lt, count_low (λ l. Any (IsOpen (value_of p.mark) p.after) l) all (opens (value_of p.mark) p.after all) (has_opens (value_of p.mark) p.after))

  -- what has ended by a beginning began before it
  pub ended_low : (k : ℕ) (d : Place) → k < length begins → ended ends (value_of (get_or begins k d).mark) ≤ k + 1
  ended_low k d lt =
      let m = value_of (get_or begins k d).mark in
      let one = sum_by-IsPermutation (λ (p : Place). cond (is_below m p) 1 0) (begins_of all) begins same_begins in
      let two = sum_by-IsPermutation (λ (e : Ratio). cond (is_ended m e) 1 0) (ends_of all) ends same_ends in
      let below : IsPartitionedBy (is_below m) begins =
      λ i j e le in' h. below_test m (get_or begins i e) (at_most_less (value_of (get_or begins i e).mark) (value_of (get_or begins j e).mark) m
      (marks_rise (get_or begins i e) (get_or begins j e) (rising i j e le in')) (below_holds m (get_or begins j e) h)) in
      elim (cases_lt k (count_by (is_below m) begins)) [
        | inl more ↦ absurd (let h : IsLess m m = below_holds m (get_or begins k d) (counted (is_below m) begins below k d more) in omega arith)
        | inr few ↦ omega (arith, one, two, ended_below m all)
      ]

  -- where labels are open at a place, at least as many are open at the last beginning up to it
  reached_by : (m : Fraction) (after : Bool) (d : Place) → 0 < opens m after all →
      (k : ℕ) × (k < length begins) × UpTo m after (get_or begins k d) × (opens m after all ≤ open_at begins ends k d)
  reached_by m after d some =
      let total = sorted_balance m after in
      let n = count_by (up_to m after) begins in
      let low = count_by-le-length (up_to m after) begins in
      let k = n - 1 in
      let in' : k < length begins = omega arith in
      let here : UpTo m after (get_or begins k d) = up_to_holds m after (get_or begins k d) (counted (up_to m after) begins (parted m after) k d (omega arith)) in
      let earlier = ended_rise (value_of (get_or begins k d).mark) m (up_to_at_most m after (get_or begins k d) here) ends in
      (k, in', here, omega arith)

  -- no place has more than the peak
  pub bound : (peak : Peak) → IsHighest begins ends (length begins) peak → (m : Fraction) (after : Bool) (n : ℕ) → HasCount (λ l. Any (IsOpen m after) l) all n → n ≤ peak.count
  bound peak highest m after n h =
      let e = opens_only m after n h in
      elim (cases_lt 0 (opens m after all)) [
        | inl some ↦
            let d : Place = record { mark = peak.mark; after = peak.after } in
            let r = reached_by m after d some in
            (let most = r.3 in omega (arith, highest.greatest r.0 d r.1))
        | inr none ↦ omega arith
      ]

  same_place : (peak : Peak) (r : IsFirstReached begins ends (length begins) peak) (d : Place) → get_or begins r.k d ≡ record { mark = peak.mark; after = peak.after }
  same_place peak r d i = record { mark = sym (r.mark d) i; after = sym (r.after d) i }

  -- before the peak's place there are fewer
  before : (peak : Peak) → IsHighest begins ends (length begins) peak → (m : Fraction) (after : Bool) (n : ℕ) → IsPlace all m after → HasCount (λ l. Any (IsOpen m after) l) all n →
      ComesBefore m after (value_of peak.mark) peak.after → n < peak.count
  before peak highest m after n place h earlier =
      let e = opens_only m after n h in
      elim highest.reached [
        | inl start ↦ absurd (nothing_before start earlier)
        | inr r ↦ elim (cases_lt 0 (opens m after all)) [
          | inl some ↦
              let d : Place = record { mark = peak.mark; after = peak.after } in
              let q = reached_by m after d some in
              elim (cases_lt q.0 r.k) [
                | inl sooner ↦ (let most = q.3 in omega (arith, r.first q.0 d sooner))
                | inr later ↦
                    let back : UpTo m after (get_or begins r.k d) = up_to_back (get_or begins r.k d) (get_or begins q.0 d) m after (rising r.k q.0 d later q.1) q.2 in
                    absurd (not_reached m after d earlier (subst (λ (p : Place). UpTo m after p) (same_place peak r d) back))
              ]
          | inr none ↦ (let some = r.some in omega arith)
        ]
      ]
    where
      nothing_before : IsStart peak → ComesBefore m after (value_of peak.mark) peak.after → ⊥
      nothing_before start (inl less) = let z = start.1 in let k : m.num * peak.mark.den < peak.mark.num * m.den = less in let l = rw z at k in omega arith
      nothing_before start (inr (same, at, later)) =
          let scale : MatchBool after (Unit {0}) (IsScale m) = place.1 in
          let above : IsScale m = subst (λ (b : Bool). MatchBool b (Unit {0}) (IsScale m)) at scale in
          let z = start.1 in
          let k : m.num * peak.mark.den ≡ peak.mark.num * m.den = same in
          let l = rw z at k in
          let p : 0 < m.num * peak.mark.den = mul-pos above peak.mark.positive in
          omega arith

  -- a label is shown at a place where one of its stays is open there
  count_of_open : (m : Fraction) (after : Bool) (n : ℕ) → HasCount (λ l. Any (IsOpen m after) l) all n → IsCount all m after n
  count_of_open m true n h =
      count_like (λ l. Any (IsOpen m true) l) (λ l. (s : Fraction) → IsJustAfter all m s → HaveScale l s) all n
      (λ i d lt. let same = shown_after all m i (get_or all i d) lt (get_or_default all i d (get_or all i d) lt) in (same.1, same.0)) h
  count_of_open m false n h = h

  open_of_count : (m : Fraction) (after : Bool) (n : ℕ) → IsCount all m after n → HasCount (λ l. Any (IsOpen m after) l) all n
  open_of_count m true n h =
      count_like (λ l. (s : Fraction) → IsJustAfter all m s → HaveScale l s) (λ l. Any (IsOpen m true) l) all n
      (λ i d lt. shown_after all m i (get_or all i d) lt (get_or_default all i d (get_or all i d) lt)) h
  open_of_count m false n h = h

  -- the peak's place
  from_of_begin : (k : ℕ) (d : Place) → k < length begins → Any (λ stays. Any (λ stay. begin_of stay ≡ get_or begins k d) stays) all
  from_of_begin k d lt =
      let p : Place = get_or begins k d in
      let among = Contains-permutation begins (begins_of all) p (IsPermutation-sym (begins_of all) begins same_begins) (Contains-get_or begins k d lt) in
      any_like (contained_flat (λ (stays : List Stay). map begin_of stays) all p among)
    where
      any_like : Any (λ stays. Contains (map begin_of stays) (get_or begins k d)) all → Any (λ stays. Any (λ stay. begin_of stay ≡ get_or begins k d) stays) all
      any_like (i, stays, lt', e, c) = (i, stays, lt', e, contained_map begin_of stays (get_or begins k d) c)

  scale_of : (stay : Stay) (b : Bool) → not stay.from_in ≡ b → MatchBool b (Unit {0}) (IsScale (value_of stay.from))
  scale_of stay true e = tt
  scale_of stay false e = stay.above (not_false stay.from_in e)
    where
      not_false : (b : Bool) → not b ≡ false → b ≡ true
      not_false true h = refl
      not_false false h = absurd (cc)

  place_of : (peak : Peak) → IsHighest begins ends (length begins) peak → IsPlace all (value_of peak.mark) peak.after
  place_of peak highest =
      elim highest.reached [
        | inl start ↦ (inl start.1, (let e = start.2 in rw e tt))
        | inr r ↦
            let d : Place = record { mark = peak.mark; after = peak.after } in
            here r (from_of_begin r.k d r.low)
      ]
    where
      here : (r : IsFirstReached begins ends (length begins) peak) →
          Any (λ stays. Any (λ stay. begin_of stay ≡ get_or begins r.k (record { mark = peak.mark; after = peak.after })) stays) all →
          IsPlace all (value_of peak.mark) peak.after
      here r (i, stays, lt, e, (j, stay, lt', e', same)) =
          let d : Place = record { mark = peak.mark; after = peak.after } in
          let mark : stay.from ≡ peak.mark = ap (λ (p : Place). p.mark) same ∙ sym (r.mark d) in
          let after : not stay.from_in ≡ peak.after = ap (λ (p : Place). p.after) same ∙ sym (r.after d) in
          (inr (i, stays, lt, e, (j, stay, lt', e', inl (rw mark refl))), subst (λ (q : Ratio). MatchBool peak.after (Unit {0}) (IsScale (value_of q))) mark (scale_of stay peak.after after))

  count_at : (peak : Peak) → IsHighest begins ends (length begins) peak → peak.count ≡ opens (value_of peak.mark) peak.after all
  count_at peak highest =
      let m = value_of peak.mark in
      let high = bound peak highest m peak.after (opens m peak.after all) (has_opens m peak.after) in
      elim highest.reached [
        | inl start ↦ (let z = start.0 in omega arith)
        | inr r ↦
            let d : Place = record { mark = peak.mark; after = peak.after } in
            let low : open_at begins ends r.k d ≤ opens m peak.after all =
            subst (λ (p : Place). open_at begins ends r.k d ≤ opens (value_of p.mark) p.after all) (same_place peak r d) (open_low r.k d r.low) in
            (let c = r.count d in omega arith)
      ]

  -- what the sweep finds highest among the sorted beginnings is the peak of the stays
  pub is_peak : (peak : Peak) → IsHighest begins ends (length begins) peak → IsPeak all peak
  is_peak peak highest = record {
    place = place_of peak highest;
    count = count_of_open (value_of peak.mark) peak.after peak.count
        (subst (λ (n : ℕ). HasCount (λ l. Any (IsOpen (value_of peak.mark) peak.after) l) all n) (sym (count_at peak highest)) (has_opens (value_of peak.mark) peak.after));
    greatest = λ m after n place h. bound peak highest m after n (open_of_count m after n h);
    first = λ m after n place h earlier. before peak highest m after n place (open_of_count m after n h) earlier;
  }
