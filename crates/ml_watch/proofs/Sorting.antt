-- Sorted changes, of which no two have one id.
use Rattle.std.proofs.Common.{◌≡◌, ◌≢◌, ℕ, zero, suc, ◌<◌, List, [], ◌∷◌, length, get_or, map, arith}
use Rattle.std.specs.Cmp.Lexicographic.{slice_cmp}
use Rattle.std.specs.Fn.{Called}
use Rattle.std.specs.List.{AllPairs, AllByRecursion}
use Rattle.std.specs.List.Sorted.{IsPermutation, IsSortedByClosure, IsStrictlySortedBy}
use Rattle.std.specs.Ordering.{nat_cmp}
use Rattle.std.specs.declared.cmp.Ordering.{Ordering}
use Rattle.std.specs.declared.cmp.Ordering.TheVariants.{Less}
use Rattle.std.proofs.lemmas.List.{get_or-map, length-map}
use denote.Param.Members.{Mut}
use denote.Ref.{Bor}
use Rattle.ml_ratio.proofs.lemmas.Sorting.{sorted_by_key}
use Rattle.ml_watch.specs.declared.change.Change.{Change}

-- keys that rise from each to all later ones
strict : {K : Type 0} (cmp : K → K → Ordering) (ks : List K) → AllPairs (λ a b. cmp a b ≡ Less) ks → IsStrictlySortedBy cmp ks
unfolding IsStrictlySortedBy
strict cmp [] h = tt
strict cmp (k ∷ ks) h = (all k ks (λ j d lt. h zero (suc j) d (omega arith) (omega arith)), strict cmp ks (λ i j d less lt. h (suc i) (suc j) d (omega arith) (omega arith)))
  where
    all : (k : _) (ks : List _) → ((j : ℕ) (d : _) → j < length ks → cmp k (get_or ks j d) ≡ Less) → AllByRecursion (λ b. cmp k b ≡ Less) ks
    all k [] h = tt
    all k (x ∷ ks) h = (h zero x (omega arith), all k ks (λ j d lt. h (suc j) d (omega arith)))

-- once changes of which no two have one id are sorted by id, their ids strictly rise
pub sorted_changes : {F : Type 0} {g : Mut F (Bor Change × (Bor Change × Unit {0})) Ordering} {f : F} (changes ordered : List Change) →
    AllPairs (λ one other. one.id ≢ other.id) changes → IsPermutation changes ordered → IsSortedByClosure g f ordered →
    ((f : F) (a : Bor Change × (Bor Change × Unit {0})) (r : Ordering) (f' : F) → Called g f a r f' → r ≡ slice_cmp nat_cmp a.0.now.id a.1.0.now.id) →
    IsStrictlySortedBy (slice_cmp nat_cmp) (map (λ c. c.id) ordered)
sorted_changes {g = g} {f = f} changes ordered differ moved up calls =
    let pairs = sorted_by_key (λ (c : Change). c.id) {g = g} {f = f} changes ordered differ moved up calls in
    let many = length-map ordered (λ (c : Change). c.id) in
    strict (slice_cmp nat_cmp) (map (λ c. c.id) ordered) (λ i j d below within. keyed ordered i j d pairs below (omega arith))
  where
    keyed : (xs : List Change) (i j : ℕ) (d : List ℕ) → AllPairs (λ one other. slice_cmp nat_cmp one.id other.id ≡ Less) xs → i < j →
        j < length xs → slice_cmp nat_cmp (get_or (map (λ (c : Change). c.id) xs) i d) (get_or (map (λ (c : Change). c.id) xs) j d) ≡ Less
    keyed [] i j d h below within = absurd (omega arith)
    keyed (x ∷ xs) i j d h below within = rw (get_or-map (λ (c : Change). c.id) (x ∷ xs) i x d (omega arith), get_or-map (λ (c : Change). c.id) (x ∷ xs) j x d within) (h i j x below within)
