-- The spots of labels, written one after another and then put in order from west to east.
use Rattle.std.proofs.Common.{◌≡◌, ◌≢◌, ℕ, ◌+◌, ◌<◌, ◌≤◌, List, length, get_or, set, false, inl, inr, sym, subst, arith, is_lt, ℤ, ◌≤ℤ◌}
use Rattle.std.specs.Prelude.{All}
use Rattle.std.specs.Cmp.{int_cmp_is}
use Rattle.std.specs.Ordering.{int_cmp}
use Rattle.std.specs.declared.cmp.Ordering.{Ordering}
use Rattle.std.specs.declared.cmp.Ordering.TheVariants.{Less}
use Rattle.std.specs.List.Sorted.{IsPermutation, IsSortedBy}
use Rattle.std.proofs.lemmas.Bool.{cases_lt}
use Rattle.std.proofs.lemmas.Cmp.{int_cmp_total}
use Rattle.std.proofs.lemmas.Int.{by_lt_z}
use Rattle.std.proofs.lemmas.List.{get_or_default, get_or-set_other, get_or-set_same}
use Rattle.std.proofs.lemmas.List.Sorted.{ranks_by, sorted_far, All-permutation, Contains-permutation}
use Rattle.ml_ratio.proofs.lemmas.Lists.{pick}
use Rattle.ml_cone.specs.declared.label.Label.{Label}
use Rattle.ml_conflict.specs.Reach.{Reaches}
use Rattle.ml_conflict.specs.Field.{IsSpotOf, IsFieldOf}
use Rattle.ml_conflict.specs.declared.axis.Axis.TheVariants.{Across}
use Rattle.ml_conflict.specs.declared.spot.Spot.{Spot}

-- the spot at each of the first i places is that of the label there
pub record AreWritten (labels : List Label) (i : ℕ) (spots : List Spot) : Type 0 where
  pub good : (k : ℕ) (d : Spot) → k < i → IsSpotOf labels (get_or spots k d)
  pub its_place : (k : ℕ) (d : Spot) → k < i → (get_or spots k d).place ≡ k

-- before the first label is written, no spot need be that of a label
pub written_none : (labels : List Label) (spots : List Spot) → AreWritten labels 0 spots
written_none labels spots = record {
  good = λ k d lt. absurd (omega arith);
  its_place = λ k d lt. absurd (omega arith);
}

-- what holds at each place that was written holds still where one more is written for which it holds
place_more : (P : ℕ → Spot → Type 0) (spots : List Spot) (i : ℕ) (spot : Spot) → i < length spots →
    ((k : ℕ) (d : Spot) → k < i → P k (get_or spots k d)) → P i spot → (k : ℕ) (d : Spot) → k < i + 1 → P k (get_or (set spots i spot) k d)
place_more P spots i spot in' before here k d lt =
    elim (cases_lt k i) [
      | inl less ↦ let other : k ≢ i = omega arith in subst (P k) (sym (get_or-set_other spots i k spot d other)) (before k d less)
      | inr more ↦
          let same : i ≡ k = omega arith in
          subst (λ (m : ℕ). P m (get_or (set spots i spot) m d)) same (subst (P i) (sym (get_or-set_same spots i spot d in')) here)
    ]

-- with the next label's spot written at its place, those of all labels up to it stand there
pub written_more : (labels : List Label) (i : ℕ) (spots : List Spot) (spot : Spot) → i < length spots →
    AreWritten labels i spots → IsSpotOf labels spot → spot.place ≡ i → AreWritten labels (i + 1) (set spots i spot)
written_more labels i spots spot in' so_far is at = record {
  good = place_more (λ k s. IsSpotOf labels s) spots i spot in' so_far.good is;
  its_place = place_more (λ k s. s.place ≡ k) spots i spot in' so_far.its_place at;
}

-- what is not less in the order of whole numbers is at least as much
not_less : (y x : ℤ) → is_lt (int_cmp y x) ≡ false → x ≤ℤ y
not_less y x h =
    by_lt_z y x
    (λ less.
    let e : Less ≡ int_cmp y x = int_cmp_is y x Less less in
    let f : is_lt Less ≡ false = subst (λ (o : Ordering). is_lt o ≡ false) (sym e) h in
    absurd (cc))
    (λ most. most)

-- the spots of all labels, sorted from west to east, are a field, where no label reaches further than the field says
pub field_of : (labels : List Label) (spots sorted : List Spot) (reach : ℕ) → length spots ≡ length labels → AreWritten labels (length labels) spots →
    All (λ a. Reaches Across a reach) labels → reach ≤ 576 → IsPermutation spots sorted → IsSortedBy (λ p q. is_lt (int_cmp p.x q.x)) sorted → IsFieldOf labels sorted reach
field_of labels spots sorted reach all written reaches low same up = record {
  good = All-permutation (IsSpotOf labels) spots sorted same (λ k d lt. written.good k d (omega arith));
  each = λ j lt.
      let there : j < length spots = omega arith in
      let d = pick spots j there in
      let spot = get_or spots j d in
      (spot, Contains-permutation spots sorted spot same (j, there, get_or_default spots j spot d there), written.its_place j d lt);
  rising = λ k m d less lt.
      not_less (get_or sorted m d).x (get_or sorted k d).x
      (sorted_far (λ (p : Spot) (q : Spot). is_lt (int_cmp p.x q.x)) (ranks_by int_cmp_total (λ (p : Spot). p.x)) sorted up k m d (omega arith) lt);
  reaches = reaches;
  low = low;
}
