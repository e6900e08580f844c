-- An evaluation among places that are enough gives the label's slot among all that stand before it.
use Rattle.std.proofs.Common.{lit<, ◌≡◌, ◌≢◌, ℕ, zero, suc, ◌*◌, ◌^◌, ◌<◌, ◌≤◌, Bool, true, List, [], ◌∷◌, length, get_or, map, Contains, ◌⊎◌, inl, inr, refl, sym, ap, ◌∙◌, subst, arith}
use Rattle.std.specs.Prelude.{◌↔◌, ◌==◌, ◌&&◌, nat_lt, IsTrue}
use Rattle.std.specs.List.Sorted.{IsStrictlyIncreasing}
use Rattle.std.proofs.lemmas.Bool.{cases_lt, cases_eq}
use Rattle.std.proofs.lemmas.List.{get_or_default, length-map}
use Rattle.std.proofs.lemmas.List.Kept.{AllPairs-from_increasing}
use Rattle.ml_ratio.specs.Fraction.{Fraction, value_of, IsLess, IsAtMost}
use Rattle.ml_ratio.specs.Band.{MeetsBand}
use Rattle.ml_ratio.specs.declared.ratio.Ratio.{Ratio}
use Rattle.ml_ratio.proofs.lemmas.Fractions.{at_most_trans, less_trans, middle, middle_above, middle_below}
use Rattle.ml_cone.specs.Choice.{Choice, IsEnd, Allows, IsLimit, CoversFrom, Blocks}
use Rattle.ml_cone.specs.Rivals.{AreRivals}
use Rattle.ml_cone.specs.Overlap.{Overlap, BoxesOverlap}
use Rattle.ml_cone.specs.Outline.{OverlapIn, RivalBand, BoundBand}
use Rattle.ml_cone.specs.Slots.{Rival, RivalAllows, IsOwnSlot, IsSlotAmong, rival_at, row, ends, no_slot}
use Rattle.ml_cone.specs.declared.label.Label.{Label}
use Rattle.ml_cone.specs.declared.slot.Slot.{Slot}
use Rattle.ml_conflict.specs.Begin.{SetsNoneUpTo}
use Rattle.ml_conflict.specs.Carried.{AreSameRival}
use Rattle.ml_store.specs.Rows.{number_at, labels_in}
use Rattle.ml_store.specs.declared.row.Row.{Row}
use Rattle.ml_store.specs.declared.moved.Moved.{Moved}
use Rattle.ml_repair.specs.Repair.{Stands, ReachesBand, Counts, present_slots, rival_in, AreEnough}
use Rattle.ml_repair.proofs.Carrying.{CarriedLaw, JoinedLaw, carried_by, joined_by, stand_test, is_standing, is_below, is_same, both_tests}
use Rattle.ml_repair.proofs.Present.{chosen_is, length-labels}

-- a list of numbers has a number, or it does not
pub contained_or_not : (xs : List ℕ) (x : ℕ) → Contains xs x ⊎ (¬ (Contains xs x))
contained_or_not [] x = inr (λ h. let lt : h.0 < 0 = h.1 in omega arith)
contained_or_not (y ∷ xs) x =
    elim (cases_eq y x) [
      | inl here ↦ inl (0, omega arith, here)
      | inr other ↦ elim (contained_or_not xs x) [
        | inl there ↦ inl (suc there.0, (let h : there.0 < length xs = there.1 in omega arith), there.2)
        | inr none ↦ inr (λ h. go h.0 h.1 h.2 other none)
      ]
    ]
  where
    go : (k : ℕ) → k < length (y ∷ xs) → get_or (y ∷ xs) k x ≡ x → ¬ (y ≡ x) → ¬ (Contains xs x) → ⊥
    go zero lt e other none = other e
    go (suc k) lt e other none = none (k, omega arith, e)

-- the law: a label that sets another no limit up to a bound in its range allows it the bound
abbrev pub UptoLaw : Type 0
UptoLaw = (low high : Label) (u bound : Fraction) → IsAtMost bound (value_of low.max) → SetsNoneUpTo low high u bound → Allows low high u bound

-- what is at least a power of two stays so
reach : (k : ℕ) (v m : Fraction) → 2 ^ k * v.den ≤ v.num → IsAtMost v m → 2 ^ k * m.den ≤ m.num
reach k v m h le =
    let p : Fraction = record { num = 2 ^ k; den = 1; positive = lit< tt } in
    let one : 2 ^ k * v.den ≤ v.num * 1 = omega arith in
    let two' : 2 ^ k * m.den ≤ m.num * 1 = at_most_trans (record { num = 2 ^ k; den = 1; positive = lit< tt }) v m one le in
    omega arith

-- ---- labels whose range ends earlier

abbrev cut : (a : Label) (u : Ratio) → IsLess (value_of a.min) (value_of u) → IsAtMost (value_of u) (value_of a.max) → u.num ≤ 2 ^ 28 * u.den → Label
cut a u some most low = record a { max = u; range = some; low_max = low }

whole : ℕ → Fraction
whole n = record { num = n; den = 1; positive = lit< tt }

-- an end of a label's range is at most 2^28
low_end : (a : Label) (u : Ratio) → IsAtMost (value_of u) (value_of a.max) → u.num ≤ 2 ^ 28 * u.den
unfolding whole
low_end a u most =
    let top : IsAtMost (value_of a.max) (whole (2 ^ 28)) = (let h = a.low_max in omega arith) in
    let h = at_most_trans (value_of u) (value_of a.max) (whole (2 ^ 28)) most top in
    omega arith

-- a label that is active just above a fraction is active until more than that
covers_beyond : (a b : Label) (v u : Fraction) → CoversFrom a b v u → IsAtMost u v
unfolding CoversFrom
covers_beyond a b v u covers =
    let s : Fraction = middle u covers.0 in
    let both = covers.2 s (middle_above u covers.0 covers.1) (middle_below u covers.0 covers.1) in
    let beyond : IsLess u v = less_trans u s v (middle_above u covers.0 covers.1) both.0.1 in
    omega arith

-- the law: two labels are rivals, or the one, active up to its maximum, allows the other its own maximum
abbrev pub FreeLaw : Type 0
FreeLaw = (low high : Label) → AreRivals low high ⊎ Allows low high (value_of high.max) (value_of low.max)

-- the law: rivals overlap in some band that meets both selectable ranges
abbrev pub RivalLaw : Type 0
RivalLaw = (a b : Label) → AreRivals a b → RivalBand a b

-- the law: a label that covers another from an end below the other's maximum on overlaps it in the band of that end
abbrev pub BoundLaw : Type 0
BoundLaw = (low high : Label) (until bound : Fraction) → IsEnd low bound → IsLess bound (value_of low.max) →
    IsAtMost until (value_of high.max) → CoversFrom low high until bound → BoundBand low high bound

-- the law: an earlier label blocks a label that ends below its maximum, where the limit that it sets is that end
abbrev pub BlocksLaw : Type 0
BlocksLaw = (labels : List Label) (choice : Choice) (j i : ℕ) → j < i → ((d : Label) → IsLess (choice i) (value_of (get_or labels i d).max)) →
    ((d : Label) → IsLimit (get_or labels i d) (get_or labels j d) (choice j) (choice i)) → Blocks labels choice j i

-- the law: a label that allows another an end still does so where it ends earlier itself, and allows any smaller end
abbrev pub SmallerLaw : Type 0
SmallerLaw = (low high : Label) (u v e f : Fraction) → IsAtMost v u → IsAtMost e f → Allows low high u f → Allows low high v e

-- labels that overlap in a band with their ranges cut off overlap there, in a band that the ranges reach
cut_overlap : (a b : Label) (u v : Ratio) (a_some : IsLess (value_of a.min) (value_of u)) (a_most : IsAtMost (value_of u) (value_of a.max)) (a_low : u.num ≤ 2 ^ 28 * u.den)
    (b_some : IsLess (value_of b.min) (value_of v)) (b_most : IsAtMost (value_of v) (value_of b.max)) (b_low : v.num ≤ 2 ^ 28 * v.den) →
    RivalBand (cut a u a_some a_most a_low) (cut b v b_some b_most b_low) → (k : ℕ) × OverlapIn a b k × MeetsBand k (value_of a.min) (value_of u) × ReachesBand k (value_of v)
unfolding Overlap BoxesOverlap
cut_overlap a b u v a_some a_most a_low b_some b_most b_low band =
    let o = band.over in (
      band.band,
      record { low = o.low; scale = o.scale; in_band = o.in_band; begins = o.begins; lasts = at_most_trans o.scale (value_of v) (value_of b.max) o.lasts b_most; over = o.over },
      band.first,
      band.second.reaches,
    )

-- what is cut off counts for nothing in what the other allows it
cut_allows : (a b : Label) (u v : Ratio) (a_some : IsLess (value_of a.min) (value_of u)) (a_most : IsAtMost (value_of u) (value_of a.max)) (a_low : u.num ≤ 2 ^ 28 * u.den)
    (b_some : IsLess (value_of b.min) (value_of v)) (b_most : IsAtMost (value_of v) (value_of b.max)) (b_low : v.num ≤ 2 ^ 28 * v.den) →
    Allows (cut a u a_some a_most a_low) (cut b v b_some b_most b_low) (value_of v) (value_of u) → Allows a b (value_of v) (value_of u)
unfolding Allows Overlap BoxesOverlap
cut_allows a b u v a_some a_most a_low b_some b_most b_low h s scale one other over = h s scale one other over

-- an empty range overlaps nothing
empty_allows : (a b : Label) (u v : Fraction) → IsAtMost u (value_of a.min) ⊎ IsAtMost v (value_of b.min) → Allows a b v u
unfolding Allows
empty_allows a b u v h s scale one other over =
    elim h [
      | inl none ↦ let t = at_most_trans u (value_of a.min) s none one.0 in let l = one.1 in omega arith
      | inr none ↦ let t = at_most_trans v (value_of b.min) s none other.0 in let l = other.1 in omega arith
    ]

module _ (free_law : FreeLaw) (rival_law : RivalLaw) (bound_law : BoundLaw) (blocks_law : BlocksLaw) where
  -- a label allows another its end, where it does so wherever they overlap in a band
  unfound_allows : (a b : Label) (u v : Ratio) → IsAtMost (value_of u) (value_of a.max) → IsAtMost (value_of v) (value_of b.max) →
      ((k : ℕ) → OverlapIn a b k → MeetsBand k (value_of a.min) (value_of u) → ReachesBand k (value_of v) → Allows a b (value_of v) (value_of u)) → Allows a b (value_of v) (value_of u)
  unfound_allows a b u v a_most b_most found_allows =
      elim (cases_lt (a.min.num * u.den) (u.num * a.min.den)) [
        | inr none ↦ empty_allows a b (value_of u) (value_of v) (inl none)
        | inl a_some ↦ elim (cases_lt (b.min.num * v.den) (v.num * b.min.den)) [
          | inr none ↦ empty_allows a b (value_of u) (value_of v) (inr none)
          | inl b_some ↦
              let a_low = low_end a u a_most in
              let b_low = low_end b v b_most in
              elim (free_law (cut a u a_some a_most a_low) (cut b v b_some b_most b_low)) [
                | inl rivals ↦
                    let found = cut_overlap a b u v a_some a_most a_low b_some b_most b_low (rival_law (cut a u a_some a_most a_low) (cut b v b_some b_most b_low) rivals) in
                    found_allows found.0 found.1 found.2 found.3
                | inr allows ↦ cut_allows a b u v a_some a_most a_low b_some b_most b_low allows
              ]
        ]
      ]

  two : Fraction → Fraction → Choice
  two v u zero = v
  two v u (suc n) = u

  -- a label sets another no limit below the maximum, where it sets none wherever they overlap in a band
  unfound_no_limit : (a b : Label) (u v : Ratio) → IsLess (value_of u) (value_of a.max) → IsAtMost (value_of v) (value_of b.max) →
      ((k : ℕ) → OverlapIn a b k → MeetsBand k (value_of a.min) (value_of u) → ReachesBand k (value_of v) → ¬ (IsLimit a b (value_of v) (value_of u))) → ¬ (IsLimit a b (value_of v) (value_of u))
  unfolding two
  unfound_no_limit a b u v below b_most found_none limit =
      let blocks = blocks_law (b ∷ a ∷ []) (two (value_of v) (value_of u)) 0 1 (omega arith) (λ d. below) (λ d. limit) a in
      let band = bound_law a b (value_of v) (value_of u) limit.is_end below b_most blocks.2 in
      found_none band.band band.over (record { begins = band.first.begins; reaches = λ p. band.in_band.from p })
      (λ p. reach band.band (value_of u) (value_of v) (band.in_band.from p) (covers_beyond a b (value_of v) (value_of u) blocks.2)) limit

module _ (free_law : FreeLaw) (rival_law : RivalLaw) (bound_law : BoundLaw) (blocks_law : BlocksLaw) (smaller_law : SmallerLaw) (upto_law : UptoLaw) (carried_law : CarriedLaw) (joined_law : JoinedLaw)
    (rows : List Row) (moved : List Moved) (low : Label) (at : ℕ) (comes : Bool) (i : ℕ) (places : List ℕ) (slot : Slot) (in' : i < length rows)
    (ends_in : (d : Label) (j : ℕ) → Stands comes true at i j → IsEnd (get_or (labels_in rows) j d) (ends (present_slots rows moved) j))
    (up : IsStrictlyIncreasing places) (are : AreEnough rows moved low at comes i places) (among : IsSlotAmong low (map (rival_in rows moved low) places) slot) where
  rivals : List Rival
  rivals = map (rival_in rows moved low) places

  others : Label → ℕ → Rival
  others d = row (number_at rows) (labels_in rows) (present_slots rows moved) d

  rivals_length : length rivals ≡ length places
  unfolding rivals
  rivals_length = length-map places (rival_in rows moved low)

  place_in : (k : ℕ) → k < length places → get_or places k 0 < length rows
  place_in k lt =
      let s = are.stand (get_or places k 0) (k, lt, get_or_default places k (get_or places k 0) 0 lt) in
      let h : get_or places k 0 < i = s.0 in
      omega arith

  rival_is : (k : ℕ) → k < length places → rival_at low rivals k ≡ rival_in rows moved low (get_or places k 0)
  unfolding rivals
  rival_is k lt = chosen_is rows moved low places k (record { number = 0; label = low; until = low.max }) lt

  alike : (d : Label) (k : ℕ) → k < length places → AreSameRival (rival_at low rivals k) (others d (get_or places k 0))
  unfolding others
  alike d k lt =
      let many = length-labels rows in
      let h = place_in k lt in
      rw (rival_is k lt) (record { number = refl; label = get_or_default (labels_in rows) (get_or places k 0) low d (omega arith); until = refl })

  -- the end is not above the bound
  under_bound : IsAtMost (value_of slot.until) (value_of are.bound)
  unfolding rivals
  under_bound =
      elim are.bound_is [
        | inl most ↦ rw most among.is_end.1
        | inr some ↦
            let k = some.1.0 in
            let lt : k < length places = some.1.1 in
            let n = rivals_length in
            let p : get_or places k 0 ≡ some.0 = get_or_default places k 0 some.0 lt ∙ some.1.2 in
            let limit = some.2 low in
            let allows : Allows low (get_or (labels_in rows) some.0 low) (ends (present_slots rows moved) some.0) (value_of slot.until) =
            subst (λ (q : ℕ). RivalAllows low (value_of slot.until) (rival_in rows moved low q)) p (subst (RivalAllows low (value_of slot.until)) (rival_is k lt) (among.allowed k (omega arith))) in
            limit.greatest (value_of slot.until) among.is_end allows
      ]

  -- the bound is not above the maximum
  bound_low : IsAtMost (value_of are.bound) (value_of low.max)
  bound_low = elim are.bound_is [ inl most ↦ rw most (omega arith) | inr some ↦ (some.2 low).is_end.1 ]

  -- what is overlapped up to the end counts
  counted : (d : Label) (j : ℕ) → Stands comes true at i j → (k : ℕ) → OverlapIn low (get_or (labels_in rows) j d) k →
      MeetsBand k (value_of low.min) (value_of slot.until) → ReachesBand k (ends (present_slots rows moved) j) → Counts rows moved low are.bound places j
  counted d j stands k found meets reaches =
      let many = length-labels rows in
      let lt : j < i = stands.0 in
      are.whole j k stands (omega arith, λ e. subst (λ (a : Label). OverlapIn low a k) (get_or_default (labels_in rows) j d e (omega arith)) found)
      (record { begins = meets.begins; reaches = λ p. reach k (value_of slot.until) (value_of are.bound) (meets.reaches p) under_bound }) reaches

  allows_unfound : (d : Label) (j : ℕ) → Stands comes true at i j → ¬ (Contains places j) → RivalAllows low (value_of slot.until) (others d j)
  unfolding others
  allows_unfound d j stands none =
      let u = ends (present_slots rows moved) j in
      unfound_allows free_law rival_law bound_law blocks_law low (get_or (labels_in rows) j d) slot.until (get_or (present_slots rows moved) j no_slot).until among.is_end.1 (ends_in d j stands).1
      (λ k found meets reaches. elim (counted d j stands k found meets reaches) [
        | inl there ↦ absurd (none there)
        | inr quiet ↦ smaller_law low (get_or (labels_in rows) j d) u u (value_of slot.until) (value_of are.bound)
            (omega arith) under_bound (upto_law low (get_or (labels_in rows) j d) u (value_of are.bound) bound_low (quiet d))
      ])

  limits_unfound : (d : Label) (j : ℕ) → Stands comes true at i j → ¬ (Contains places j) → IsLess (value_of slot.until) (value_of low.max) →
      ¬ (IsLimit low (others d j).label (value_of (others d j).until) (value_of slot.until))
  unfolding others
  limits_unfound d j stands none below =
      unfound_no_limit free_law rival_law bound_law blocks_law low (get_or (labels_in rows) j d) slot.until (get_or (present_slots rows moved) j no_slot).until below (ends_in d j stands).1
      (λ k found meets reaches. elim (counted d j stands k found meets reaches) [
        | inl there ↦ absurd (none there)
        | inr quiet ↦ λ limit. (let above : IsLess (value_of are.bound) (value_of slot.until) = quiet d (value_of slot.until) limit below in let under = under_bound in omega arith)
      ])

  abbrev Linked : ℕ → ℕ → Type 0
  Linked k j = (k < length places) × (get_or places k 0 ≡ j)

  abbrev linked : ℕ → ℕ → Bool
  linked k j = nat_lt k (length places) && (get_or places k 0 == j)

  is_linked : (k j : ℕ) → Linked k j ↔ IsTrue (linked k j)
  is_linked k j = both_tests (nat_lt k (length places)) (get_or places k 0 == j) (k < length places) (get_or places k 0 ≡ j) (is_below (length places) k) (is_same (get_or places k 0) j)

  in_order : (k j m p : ℕ) → Linked k j → Linked m p → p < j → m < k
  in_order k j m p one other less =
      elim (cases_lt m k) [
        | inl lt ↦ lt
        | inr more ↦ elim (cases_eq k m) [
          | inl same ↦ let e : j ≡ p = sym one.1 ∙ ap (λ x. get_or places x 0) same ∙ other.1 in absurd (omega arith)
          | inr apart ↦
              let strict : k < m = (let no : k ≢ m = apart in omega arith) in
              let h = AllPairs-from_increasing places up k m 0 strict other.0 in
              let e : get_or places k 0 ≡ j = one.1 in
              let f : get_or places m 0 ≡ p = other.1 in
              absurd (omega arith)
        ]
      ]

  gathered : (d : Label) (j : ℕ) → Contains places j → (k : ℕ) × (k < length rivals) × AreSameRival (rival_at low rivals k) (others d j) × Linked k j
  gathered d j there =
      let k = there.0 in
      let lt : k < length places = there.1 in
      let n = rivals_length in
      let e : get_or places k 0 ≡ j = get_or_default places k 0 j lt ∙ there.2 in
      (k, omega arith, subst (λ (p : ℕ). AreSameRival (rival_at low rivals k) (others d p)) e (alike d k lt), (lt, e))

  forward : (d : Label) (k : ℕ) → k < length rivals → (j : ℕ) × Stands comes true at i j × AreSameRival (rival_at low rivals k) (others d j) × Linked k j
  forward d k lt =
      let n = rivals_length in
      let h : k < length places = omega arith in
      (get_or places k 0, are.stand (get_or places k 0) (k, h, get_or_default places k (get_or places k 0) 0 h), alike d k h, (h, refl))

  -- what places that are enough leave the label is what all labels that stand before it leave
  pub enough_own : (d : Label) → ((e : Label) → get_or (labels_in rows) i e ≡ low) →
      IsOwnSlot (row (number_at rows) (labels_in rows) (present_slots rows moved) d) (Stands comes true at i) (get_or (labels_in rows) i d) slot
  unfolding rivals others
  enough_own d is =
      rw (is d) (elim (cases_lt (slot.until.num * low.max.den) (low.max.num * slot.until.den)) [
        | inl below ↦
            joined_by (λ k. k < length rivals) (Stands comes true at i) (λ k. nat_lt k (length rivals)) (stand_test comes true at i)
            (is_below (length rivals)) (is_standing comes true at i) Linked linked is_linked joined_law low (rival_at low rivals) (others d) slot
            (record {
              forth = forward d;
              back = λ j stands. elim (contained_or_not places j) [
                | inl there ↦ inr (gathered d j there)
                | inr none ↦ inl (allows_unfound d j stands none, limits_unfound d j stands none below)
              ];
              order = in_order;
            }) among
        | inr most ↦
            carried_by (λ k. k < length rivals) (Stands comes true at i) (λ k. nat_lt k (length rivals)) (stand_test comes true at i)
            (is_below (length rivals)) (is_standing comes true at i) Linked linked is_linked carried_law low (rival_at low rivals) (others d)
            (record {
              forth = λ k lt. inr (forward d k lt);
              back = λ j stands. elim (contained_or_not places j) [
                | inl there ↦ inr (gathered d j there)
                | inr none ↦ inl (smaller_law low (others d j).label (value_of (others d j).until) (value_of (others d j).until)
                    (value_of low.max) (value_of slot.until) (omega arith) most (allows_unfound d j stands none))
              ];
              order = in_order;
            }) slot among
      ])
