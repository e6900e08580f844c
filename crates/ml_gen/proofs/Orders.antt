-- The groups of a map and the order in which they are edited.
use Rattle.std.proofs.Common.{◌≡◌, ◌≢◌, ℕ, suc, ◌+◌, ◌*◌, ◌/◌, ◌%◌, ◌<◌, ◌≤◌, List, length, get_or, map, All, inl, inr, sym, ap, subst, ◌∙◌, arith}
use Rattle.std.specs.List.{range_with_len}
use Rattle.std.proofs.Math.Nat.{div-add-mod, mul-le-mul_left}
use Rattle.std.proofs.lemmas.Bool.{cases_lt}
use Rattle.std.proofs.lemmas.Nat.{mod_below}
use Rattle.std.proofs.lemmas.List.FromFn.{length-map-range_with_len, get_or-map-range_with_len}
use Rattle.ml_gen.specs.Group.{group_of, groups_in, group_in_turn, order, HaveOwnNumbers}
use Rattle.ml_gen.specs.declared.group.Group.{Group}

-- numbers that are less than n apart leave different remainders
pub remainders_differ : (n a b : ℕ) → a < b → b < a + n → ¬ (a % n ≡ b % n)
remainders_differ n a b less near same =
    let one : n * (a / n) + a % n ≡ a = div-add-mod a n in
    let two : n * (b / n) + b % n ≡ b = div-add-mod b n in
    elim (cases_lt (a / n) (b / n)) [
      | inl below ↦ (let step : n * suc (a / n) ≤ n * (b / n) = mul-le-mul_left n (omega arith) in let more : n * suc (a / n) ≡ n * (a / n) + n = omega arith in omega arith)
      | inr above ↦ (let step : n * (b / n) ≤ n * (a / n) = mul-le-mul_left n above in omega arith)
    ]

-- the groups that a function of their places gives
module _ (f : ℕ → Group) (n : ℕ) where
  -- the group at place i is what the function gives for i
  pub listed_at : (i : ℕ) (d : Group) → i < n → get_or (map f (range_with_len 0 n)) i d ≡ f i
  listed_at i d lt = get_or-map-range_with_len f 0 n i i d lt (omega arith)

  -- no two groups have one number if the function gives none for two places
  pub listed_own : ((i j : ℕ) → i < j → j < n → (f i).number ≢ (f j).number) → HaveOwnNumbers (map f (range_with_len 0 n))
  listed_own apart i j d below lt same =
      let long : length (map f (range_with_len 0 n)) ≡ n = length-map-range_with_len f 0 n in
      let low : j < n = omega arith in
      apart i j below low (ap (λ (g : Group). g.number) (sym (listed_at i d (omega arith))) ∙ same ∙ ap (λ (g : Group). g.number) (listed_at j d low))

-- no two groups of a map have one number
pub groups_own : (n seed : ℕ) → HaveOwnNumbers (groups_in n seed)
groups_own n seed = listed_own (group_of seed) n (λ i j below lt same. omega (arith, below, same))

-- no group is edited twice in the first m turns, where there are not more turns than groups
pub order_own : (n seed m : ℕ) → m ≤ n → HaveOwnNumbers (map (group_in_turn n seed) (range_with_len 0 m))
order_own n seed m few = listed_own (group_in_turn n seed) m (λ i j below lt. remainders_differ n (i + seed) (j + seed) (omega (arith, below)) (omega (arith, lt, few)))

-- the group at a place of the map
pub group_there : (groups : List Group) (seed i : ℕ) (d : Group) → groups ≡ groups_in (length groups) seed → i < length groups → get_or groups i d ≡ group_of seed i
group_there groups seed i d all lt = ap (λ (gs : List Group). get_or gs i d) all ∙ listed_at (group_of seed) (length groups) i d lt

-- what holds of all groups of a map holds of them in the order of edits
pub order_all : (P : Group → Type 0) (groups : List Group) (seed : ℕ) → groups ≡ groups_in (length groups) seed → All P groups → All P (order (length groups) seed)
order_all P groups seed all each k d lt =
    let n = length groups in
    let long : length (order (length groups) seed) ≡ length groups = length-map-range_with_len (group_in_turn (length groups) seed) 0 (length groups) in
    let low : k < length groups = omega (arith, lt, long) in
    let at : (k + seed) % length groups < length groups = mod_below (k + seed) (length groups) (omega arith) in
    let is : get_or groups ((k + seed) % length groups) d ≡ get_or (order (length groups) seed) k d =
    group_there groups seed ((k + seed) % length groups) d all at ∙ sym (listed_at (group_in_turn (length groups) seed) (length groups) k d low) in
    subst P is (each ((k + seed) % length groups) d at)

-- a map of n groups has n of them
pub groups_long : (n seed : ℕ) → length (groups_in n seed) ≡ n
groups_long n seed = length-map-range_with_len (group_of seed) 0 n

-- and n groups are edited in turn
pub order_long : (n seed : ℕ) → length (order n seed) ≡ n
order_long n seed = length-map-range_with_len (group_in_turn n seed) 0 n
