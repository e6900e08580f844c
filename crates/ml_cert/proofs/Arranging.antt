-- Spots of labels are written, put in order, and cut into strips.
use Rattle.std.proofs.Common.{◌≡◌, ◌≢◌, ℕ, ◌+◌, ◌-◌, ◌<◌, ◌≤◌, List, length, get_or, set, take, drop, ◌⊎◌, inl, inr, subst, ap, ◌∙◌, arith, length-drop}
use Rattle.std.specs.Prelude.{All, slice_range}
use Rattle.std.specs.List.Sorted.{IsPermutation}
use Rattle.std.proofs.lemmas.Bool.{cases_lt}
use Rattle.std.proofs.lemmas.List.{get_or_default, get_or-set_other, get_or-set_same, get_or-take, get_or-drop, length-set, length-take}
use Rattle.std.proofs.lemmas.List.Sorted.{All-permutation, Contains-permutation}
use Rattle.ml_ratio.proofs.lemmas.Lists.{pick}
use Rattle.ml_cone.specs.declared.label.Label.{Label}
use Rattle.ml_cone.specs.declared.slot.Slot.{Slot}
use Rattle.ml_conflict.specs.Area.{IsInArea}
use Rattle.ml_conflict.specs.Field.{IsSpotOf, HasSpot}
use Rattle.ml_conflict.specs.declared.spot.Spot.{Spot}
use Rattle.ml_cert.specs.Strips.{IsIdle, AreListed, AreRising, IsStripIn, AreCut, IsFieldOf}
use Rattle.ml_cert.specs.declared.strip.Strip.{Strip}

-- ---- the spots of labels whose slots are not empty

module _ (labels : List Label) (slots : List Slot) where
  -- before the first label no spot is listed
  pub listed_none : (spots : List Spot) → AreListed labels slots 0 spots 0
  listed_none spots = record {
    good = λ k d lt. absurd (omega arith);
    each = λ j lt. absurd (omega arith);
  }

  -- the label's slot is empty
  pub listed_kept : (i n : ℕ) (spots : List Spot) → AreListed labels slots i spots n → IsIdle labels slots i → AreListed labels slots (i + 1) spots n
  listed_kept i n spots so_far idle = record {
    good = so_far.good;
    each = λ j lt. elim (cases_lt j i) [
      | inl less ↦ so_far.each j less
      | inr more ↦ let same : i ≡ j = omega arith in inr (subst (IsIdle labels slots) same idle)
    ];
  }

  -- its spot is written
  pub listed_more : (i n : ℕ) (spots : List Spot) (spot : Spot) → n < length spots → AreListed labels slots i spots n →
      IsSpotOf labels spot → spot.place ≡ i → AreListed labels slots (i + 1) (set spots n spot) (n + 1)
  listed_more i n spots spot in' so_far is at = record {
    good = λ k d lt. elim (cases_lt k n) [
      | inl less ↦ let other : k ≢ n = omega arith in rw (get_or-set_other spots n k spot d other) (so_far.good k d less)
      | inr more ↦
          let same : n ≡ k = omega arith in
          subst (λ (m : ℕ). IsSpotOf labels (get_or (set spots n spot) m d)) same (rw (get_or-set_same spots n spot d in') is)
    ];
    each = λ j lt. elim (cases_lt j i) [
      | inl less ↦ elim (so_far.each j less) [
        | inl (k, k_lt, its) ↦ inl (k, omega arith, λ d. let other : k ≢ n = omega arith in rw (get_or-set_other spots n k spot d other) (its d))
        | inr idle ↦ inr idle
      ]
      | inr more ↦ let same : i ≡ j = omega arith in inl (n, omega arith, λ d. rw (get_or-set_same spots n spot d in') (at ∙ same))
    ];
  }

  module _ (spots part sorted : List Spot) (n : ℕ) (in' : n ≤ length spots) (is : part ≡ take n spots)
      (listed : AreListed labels slots (length labels) spots n) (same : IsPermutation part sorted) where
    long : length part ≡ n
    long = let h = length-take n spots in let e = ap length is in omega arith

    reads : (k : ℕ) (d : Spot) → k < n → get_or part k d ≡ get_or spots k d
    reads k d lt = ap (λ (xs : List Spot). get_or xs k d) is ∙ get_or-take n spots k d lt

    -- each of the sorted spots is that of a label
    pub arranged_good : All (IsSpotOf labels) sorted
    arranged_good = All-permutation (IsSpotOf labels) part sorted same (λ k d lt. let h = long in rw (reads k d (omega arith)) (listed.good k d (omega arith)))

    -- each label has its spot among the sorted ones, unless its slot is empty
    pub arranged_each : (j : ℕ) → j < length labels → HasSpot sorted j ⊎ IsIdle labels slots j
    arranged_each j lt =
        elim (listed.each j lt) [
          | inl (k, k_lt, its) ↦
              let h = long in
              let there : k < length part = omega arith in
              let spot : Spot = pick part k there in
              let at = get_or part k spot in
              inl (at, Contains-permutation part sorted at same (k, there, get_or_default part k at spot there), rw (reads k spot k_lt) (its spot))
          | inr idle ↦ inr idle
        ]

-- ---- strips

-- what stands in a part of a list
part_read : {X : Type 0} (xs : List X) (a b k : ℕ) (d : X) → k < b - a → get_or (slice_range xs a b) k d ≡ get_or xs (a + k) d
part_read xs a b k d lt = get_or-take (b - a) (drop a xs) k d lt ∙ get_or-drop a xs k d

part_length : {X : Type 0} (xs : List X) (a b : ℕ) → a ≤ b → b ≤ length xs → length (slice_range xs a b) ≡ b - a
part_length {X} xs a b le in' = let long = length-drop a xs in let front = length-take (b - a) (drop a xs) in omega arith

module _ (labels : List Label) (spots : List Spot) where
  -- the spots from one place until another are those of labels, as all spots are
  pub part_good : (from to : ℕ) → from ≤ to → to ≤ length spots → All (IsSpotOf labels) spots → All (IsSpotOf labels) (slice_range spots from to)
  part_good from to le in' all k d lt = let long = part_length spots from to le in' in rw (part_read spots from to k d (omega arith)) (all (from + k) d (omega arith))

  -- spots from south to north, from one place until another, in an area that holds their labels, are a strip
  pub strip_of : (strip : Strip) → strip.from ≤ strip.to → strip.to ≤ length spots → All (IsSpotOf labels) spots → AreRising spots strip.from strip.to →
      All (λ spot. (d : Label) → IsInArea (get_or labels spot.place d) strip.area) (slice_range spots strip.from strip.to) → IsStripIn labels spots strip
  strip_of strip le in' all up held = record {
    order = le;
    within = in';
    part = record {
      good = part_good strip.from strip.to le in' all;
      rising = λ i j d less lt.
          let long = part_length spots strip.from strip.to le in' in
          rw (part_read spots strip.from strip.to i d (omega arith), part_read spots strip.from strip.to j d (omega arith))
          (up (strip.from + i) (strip.from + j) d (omega arith) (omega arith) (omega arith));
      held = held;
    };
  }

  -- before the first spot there is no strip
  pub cut_none : (strips : List Strip) → AreCut labels spots strips 0 0
  cut_none strips = record {
    few = omega arith;
    good = λ k d lt. absurd (omega arith);
    each = λ m lt. absurd (omega arith);
  }

  -- with the strip that begins where the last one ended, the spots before its end are in the first n + 1 strips
  pub cut_more : (strips : List Strip) (n from : ℕ) (strip : Strip) → n < length strips → strip.from ≡ from →
      IsStripIn labels spots strip → AreCut labels spots strips n from → AreCut labels spots (set strips n strip) (n + 1) strip.to
  cut_more strips n from strip in' begins is so_far = record {
    few = let long = length-set strips n strip in omega arith;
    good = λ k d lt. elim (cases_lt k n) [
      | inl less ↦ let other : k ≢ n = omega arith in rw (get_or-set_other strips n k strip d other) (so_far.good k d less)
      | inr more ↦
          let same : n ≡ k = omega arith in
          subst (λ (m : ℕ). IsStripIn labels spots (get_or (set strips n strip) m d)) same (rw (get_or-set_same strips n strip d in') is)
    ];
    each = λ m lt. elim (cases_lt m from) [
      | inl less ↦
          let before = so_far.each m less in
          let k : ℕ = before.0 in
          let k_lt : k < n = before.1 in
          let other : k ≢ n = omega arith in
          (k, omega arith, λ d. rw (get_or-set_other strips n k strip d other) (before.2 d))
      | inr more ↦ (n, omega arith, λ d. rw (get_or-set_same strips n strip d in') (omega arith, lt))
    ];
  }

  module _ (slots : List Slot) (strips parts : List Strip) (n : ℕ) (is : parts ≡ take n strips) (cut : AreCut labels spots strips n (length spots)) where
    parts_long : length parts ≡ n
    parts_long = let h = length-take n strips in let e = ap length is in let few = cut.few in omega arith

    parts_read : (k : ℕ) (d : Strip) → k < n → get_or parts k d ≡ get_or strips k d
    parts_read k d lt = ap (λ (xs : List Strip). get_or xs k d) is ∙ get_or-take n strips k d lt

    in_part : (strip : Strip) (m : ℕ) (spot : Spot) (j : ℕ) → IsStripIn labels spots strip → strip.from ≤ m →
        m < strip.to → get_or spots m spot ≡ spot → spot.place ≡ j → HasSpot (slice_range spots strip.from strip.to) j
    in_part strip m spot j good from to is its =
        let order = good.order in
        let within = good.within in
        let long = part_length spots strip.from strip.to order within in
        let back : strip.from + (m - strip.from) ≡ m = omega arith in
        (spot, (m - strip.from, omega arith, part_read spots strip.from strip.to (m - strip.from) spot (omega arith) ∙ (ap (λ (k : ℕ). get_or spots k spot) back ∙ is)), its)

    -- strips that the spots are cut into are a field of the labels: each label has its spot in one, unless its slot is empty
    pub field_of : ((j : ℕ) → j < length labels → HasSpot spots j ⊎ IsIdle labels slots j) → IsFieldOf labels slots spots parts
    field_of each = record {
      good = λ k d lt. let h = parts_long in rw (parts_read k d (omega arith)) (cut.good k d (omega arith));
      held = λ j lt. elim (each j lt) [
        | inl (spot, (m, m_lt, at), its) ↦
            let there = cut.each m m_lt in
            let k : ℕ = there.0 in
            let k_lt : k < n = there.1 in
            let h = parts_long in
            inl (k, omega arith, λ d. rw (parts_read k d k_lt) (in_part (get_or strips k d) m spot j (cut.good k d k_lt) (there.2 d).0 (there.2 d).1 at its))
        | inr idle ↦ inr idle
      ];
    }
