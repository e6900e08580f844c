-- Choices whose every end is the greatest that the labels before allow.
use Rattle.std.proofs.Common.{◌≡◌, ℕ, ◌*◌, ◌<◌, List, length, get_or, arith, true, false, cond, ltb, eqb, ◌⊎◌, inl, inr}
use Rattle.std.proofs.lemmas.Bool.{cases_lt, cases_order}
use Rattle.std.proofs.lemmas.Bool.Decides.{nat_tests}
use Rattle.std.proofs.lemmas.List.{get_or_default}
use Rattle.ml_ratio.specs.Fraction.{Fraction, value_of, IsLess, IsAtMost, IsSame}
use Rattle.ml_cone.specs.Choice.{IsEnd, Allows, IsLimit, Choice, IsChoice, IsConflictFree, FirstDifference, IsLongest, IsLeastEnd, IsOwnEnd, Blocks}
use Rattle.ml_cone.specs.declared.label.Label.{Label}
use Rattle.ml_ratio.proofs.lemmas.Fractions.{same_at_most, at_most_trans}
use Rattle.ml_ratio.proofs.lemmas.Lists.{pick}
use Rattle.ml_conflict.proofs.Greedy.{Allows-smaller}
use Rattle.ml_conflict.proofs.Limits.{covers_of_limit, limit_of_covers}

-- the least of the maximum and the limits is the greatest end that all allow
pub own_of_least : (labels : List Label) (c : Choice) (i : ℕ) → IsLeastEnd labels c i → IsOwnEnd labels c i
own_of_least labels c i least =
    record {
      is_end = least.is_end;
      allowed = λ j d lt.
          let b = least.below j d lt in
          Allows-smaller (get_or labels i d) (get_or labels j d) (c j) (c j) (c i) b.0 (omega arith) b.2 b.1.allowed;
      greatest = λ e e_end all. least.reached e e_end (λ j d f lt limit. limit.greatest e (e_end d) (all j d lt));
    }

-- a choice in which each end is the greatest that the labels before it allow is the longest
pub own_longest : (labels : List Label) (c : Choice) → ((i : ℕ) → i < length labels → IsOwnEnd labels c i) → IsLongest labels c
own_longest labels c own =
    record {
      is_choice = λ i d in'. (own i in').is_end d;
      free = λ j i d lt in'. (own i in').allowed j d lt;
      greatest = λ b choice free i in' first.
          let most : IsAtMost (b i) (c i) =
          (own i in').greatest (b i) (λ d. choice i d in') (λ j d lt.
          Allows-smaller (get_or labels i d) (get_or labels j d) (b j) (c j) (b i) (b i) (same_at_most (c j) (b j) (first.before j lt)) (omega arith) (free j i d lt in')) in
          let not_same : ¬ (IsSame (b i) (c i)) = first.here in
          omega arith;
    }

-- and so a choice in which each end is the least of the maximum and the limits
pub greedy_longest : (labels : List Label) (c : Choice) → ((i : ℕ) → i < length labels → IsLeastEnd labels c i) → IsLongest labels c
greedy_longest labels c least = own_longest labels c (λ i in'. own_of_least labels c i (least i in'))

-- in a conflict-free choice a label below its maximum is blocked by just those before it whose limit is its end
pub blocks_limit : (labels : List Label) (c : Choice) (j i : ℕ) (d : Label) → IsEnd (get_or labels i d) (c i) →
    Allows (get_or labels i d) (get_or labels j d) (c j) (c i) → Blocks labels c j i → IsLimit (get_or labels i d) (get_or labels j d) (c j) (c i)
blocks_limit labels c j i d is_end allowed blocks =
    let b = blocks d in
    limit_of_covers (get_or labels i d) (get_or labels j d) (c j) (c i) is_end allowed (λ _. b.2)

-- a label before it that sets a limit at its end, below its maximum, blocks it
pub limit_blocks : (labels : List Label) (c : Choice) (j i : ℕ) → j < i → ((d : Label) → IsLess (c i) (value_of (get_or labels i d).max)) →
    ((d : Label) → IsLimit (get_or labels i d) (get_or labels j d) (c j) (c i)) → Blocks labels c j i
limit_blocks labels c j i lt below limit d = (lt, below d, covers_of_limit (get_or labels i d) (get_or labels j d) (c j) (c i) (limit d) (below d))

-- what is the longest choice is made of own ends
-- the choice that agrees with c below i, is e at i, and is empty from there on
unfoldable changed : List Label → Choice → ℕ → Fraction → Label → Choice
changed labels c i e d k = cond (ltb k i) (c k) (cond (eqb k i) e (value_of (get_or labels k d).min))

module _ (labels : List Label) (c : Choice) (i : ℕ) (e : Fraction) (d : Label) where
  changed_below : (k : ℕ) → k < i → changed labels c i e d k ≡ c k
  unfolding changed
  changed_below k lt = let t : ltb k i ≡ true = grind (arith, nat_tests) in rw t

  changed_at : changed labels c i e d i ≡ e
  unfolding changed
  changed_at = let t : ltb i i ≡ false = grind (arith, nat_tests) in let u : eqb i i ≡ true = grind (arith, nat_tests) in rw (t, u)

  changed_above : (k : ℕ) → i < k → changed labels c i e d k ≡ value_of (get_or labels k d).min
  unfolding changed
  changed_above k lt = let t : ltb k i ≡ false = grind (arith, nat_tests) in let u : eqb k i ≡ false = grind (arith, nat_tests) in rw (t, u)

-- an empty range is always allowed
pub empty_allowed : (low high : Label) (u : Fraction) → Allows low high u (value_of low.min)
unfolding Allows
empty_allowed low high u s scale a b o = let p = a.0 in let q = a.1 in omega arith

-- each end of the longest choice is the greatest that all labels before it allow
pub longest_own : (labels : List Label) (c : Choice) → IsLongest labels c → (i : ℕ) → i < length labels → IsOwnEnd labels c i
longest_own labels c longest i in' =
    record {
      is_end = λ d. longest.is_choice i d in';
      allowed = λ j d lt. longest.free j i d lt in';
      greatest = λ e e_end all.
          elim (cases_lt ((c i).num * e.den) (e.num * (c i).den)) [
            | inr more ↦ more
            | inl less ↦
                let a : Label = pick labels i in' in
                let b : Choice = changed labels c i e a in
                let at : b i ≡ e = changed_at labels c i e a in
                let choice : IsChoice labels b = (λ (k : ℕ) (d : Label) (k_in : k < length labels).
                elim (cases_order k i) [
                  | inl same ↦ rw (same, at) (e_end d)
                  | inr (inl below) ↦ rw (changed_below labels c i e a k below) (longest.is_choice k d k_in)
                  | inr (inr above) ↦ rw (changed_above labels c i e a k above, get_or_default labels k a d k_in)
                      (let r : IsLess (value_of (get_or labels k d).min) (value_of (get_or labels k d).max) = (get_or labels k d).range in (omega arith, omega arith))
                ]) in
                let free : IsConflictFree labels b = (λ (j k : ℕ) (d : Label) (lt : j < k) (k_in : k < length labels).
                elim (cases_order k i) [
                  | inl same ↦ rw (same, at) (let l : j < i = omega arith in rw (changed_below labels c i e a j l) (all j d l))
                  | inr (inl below) ↦ let l : j < i = omega arith in rw (changed_below labels c i e a k below, changed_below labels c i e a j l) (longest.free j k d lt k_in)
                  | inr (inr above) ↦ rw (changed_above labels c i e a k above, get_or_default labels k a d k_in) (empty_allowed (get_or labels k d) (get_or labels j d) (b j))
                ]) in
                let first : FirstDifference b c i = record { before = λ j lt. rw (changed_below labels c i e a j lt); here = rw at (λ h. omega arith) } in
                let contra : IsLess e (c i) = (rw at at (longest.greatest b choice free i in' first)) in
                absurd (omega arith)
          ];
    }

-- a certificate
-- an end that is allowed, and that is blocked where it is below the maximum, is the label's own
pub own_of_blocked : (labels : List Label) (c : Choice) (i : ℕ) → i < length labels → ((d : Label) → IsEnd (get_or labels i d) (c i)) →
    ((j : ℕ) (d : Label) → j < i → Allows (get_or labels i d) (get_or labels j d) (c j) (c i)) →
    ((d : Label) → IsSame (c i) (value_of (get_or labels i d).max)) ⊎ ((j : ℕ) × Blocks labels c j i) → IsOwnEnd labels c i
own_of_blocked labels c i in' is_end allowed (inl same) =
    record {
      is_end = is_end;
      allowed = allowed;
      greatest = λ e e_end all. let a : Label = pick labels i in' in at_most_trans e (value_of (get_or labels i a).max) (c i) (e_end a).1 (let s = same a in omega arith);
    }
own_of_blocked labels c i in' is_end allowed (inr (j, blocks)) =
    record {
      is_end = is_end;
      allowed = allowed;
      greatest = λ e e_end all.
          let a : Label = pick labels i in' in
          let lt : j < i = (blocks a).0 in
          (blocks_limit labels c j i a (is_end a) (allowed j a lt) blocks).greatest e (e_end a) (all j a lt);
    }
