-- The properties of an orderly map are in order, and their numbers are numbers.
use Rattle.std.proofs.Common.{◌≡◌, ℕ, zero, suc, List, [], ◌∷◌, Bool, true, false, cond, Option, Some, None, arith}
use Rattle.std.specs.Prelude.{All}
use Rattle.std.specs.List.{AllByRecursion}
use Rattle.std.specs.Cmp.Lexicographic.{slice_cmp}
use Rattle.std.specs.Ordering.{nat_cmp}
use Rattle.std.specs.Str.{bytes_eq}
use Rattle.std.specs.declared.cmp.Ordering.TheVariants.{Less}
use Rattle.std.proofs.lemmas.Cmp.{nat_list_cmp_total}
use Rattle.std.proofs.lemmas.List.Kept.{AllPairs-cons}
use Rattle.ml_json.specs.Tree.{Tree, null, flag, num, str, list, map, Pairs, no_pairs, pair}
use Rattle.ml_json.specs.Canonical.{IsOrderly, IsAscending, AllPairsOrderly}
use Rattle.ml_ratio.specs.Feature.{IsScalar, HaveScalars, AreAscending}
use Rattle.ml_ratio.specs.declared.feature.Prop.{Prop}
use Rattle.ml_ratio.specs.declared.feature.Scalar.{Scalar}
use Rattle.ml_geojson.specs.Collection.{IsSomeOrderly}
use Rattle.ml_geojson.specs.Members.{member}
use Rattle.ml_geojson.specs.Properties.{scalar, with_scalar, scalars, properties}

by_key : (t : Bool) (v : Tree) (rest : Option Tree) → IsOrderly v → IsSomeOrderly rest → IsSomeOrderly (cond t (Some v) rest)
by_key true v rest h g = h
by_key false v rest h g = g

-- the value of a member of an orderly map is orderly
pub member_good : (key : List ℕ) (ps : Pairs) → AllPairsOrderly ps → IsSomeOrderly (member key ps)
member_good key no_pairs h = tt
member_good key (pair k v ps) h = by_key (bytes_eq k key) v (member key ps) h.0 (member_good key ps h.1)

all_of : {X : Type 0} (P : X → Type 0) (xs : List X) → AllByRecursion P xs → All P xs
all_of P [] h k d lt = absurd (omega arith)
all_of P (x ∷ xs) h zero d lt = h.0
all_of P (x ∷ xs) h (suc k) d lt = all_of P xs h.1 k d (omega arith)

abbrev AreNumbers : List Prop → Type 0
AreNumbers props = AllByRecursion (λ (p : Prop). IsScalar p.value) props

some_number : (tree : Tree) → IsOrderly tree → (key : List ℕ) (props : List Prop) → AreNumbers props → AreNumbers (with_scalar key (scalar tree) props)
some_number null h key props g = (tt, g)
some_number (flag b) h key props g = (tt, g)
some_number (num text) h key props g = (∣ h ∣₁, g)
some_number (str text) h key props g = (tt, g)
some_number (list ts) h key props g = g
some_number (map ps) h key props g = g

numbers : (ps : Pairs) → AllPairsOrderly ps → AreNumbers (scalars ps)
numbers no_pairs h = tt
numbers (pair k v ps) h = some_number v h.0 k (scalars ps) (numbers ps h.1)

-- each key is above k
abbrev AreAbove : List ℕ → List Prop → Type 0
AreAbove k props = AllByRecursion (λ (p : Prop). slice_cmp nat_cmp k p.key ≡ Less) props

above_with : (k key : List ℕ) (tree : Option Scalar) (props : List Prop) → slice_cmp nat_cmp k key ≡ Less → AreAbove k props → AreAbove k (with_scalar key tree props)
above_with k key None props e g = g
above_with k key (Some value) props e g = (e, g)

above : (k : List ℕ) (v : Tree) (ps : Pairs) → IsAscending (pair k v ps) → AreAbove k (scalars ps)
above k v no_pairs h = tt
above k v (pair l w no_pairs) h = above_with k l (scalar w) [] h.0 tt
above k v (pair l w (pair m x ps)) h = above_with k l (scalar w) (scalars (pair m x ps)) h.0 (above k v (pair m x ps) (nat_list_cmp_total.trans k l m h.0 h.1.0, h.1.1))

tail_ascends : (k : List ℕ) (v : Tree) (ps : Pairs) → IsAscending (pair k v ps) → IsAscending ps
tail_ascends k v no_pairs h = tt
tail_ascends k v (pair l w ps) h = h.1

with_ascends : (k : List ℕ) (tree : Option Scalar) (props : List Prop) → AreAbove k props → AreAscending props → AreAscending (with_scalar k tree props)
with_ascends k None props h g = g
with_ascends k (Some value) props h g = AllPairs-cons (λ (p q : Prop). slice_cmp nat_cmp p.key q.key ≡ Less)
    (record { key = k; value = value }) props (all_of (λ (q : Prop). slice_cmp nat_cmp k q.key ≡ Less) props h) g

ascends : (ps : Pairs) → IsAscending ps → AreAscending (scalars ps)
ascends no_pairs h = λ i j d less lt. absurd (omega arith)
ascends (pair k v ps) h = with_ascends k (scalar v) (scalars ps) (above k v ps h) (ascends ps (tail_ascends k v ps h))

module _ (key : List ℕ) (ps : Pairs) (h : IsOrderly (map ps)) where
  numbers_of : (value : Option Tree) → IsSomeOrderly value → HaveScalars (properties value)
  numbers_of (Some (map qs)) g = all_of (λ (p : Prop). IsScalar p.value) (scalars qs) (numbers qs g.1)
  numbers_of None g = λ k d lt. absurd (omega arith)
  numbers_of (Some null) g = λ k d lt. absurd (omega arith)
  numbers_of (Some (flag b)) g = λ k d lt. absurd (omega arith)
  numbers_of (Some (num t)) g = λ k d lt. absurd (omega arith)
  numbers_of (Some (str t)) g = λ k d lt. absurd (omega arith)
  numbers_of (Some (list ts)) g = λ k d lt. absurd (omega arith)

  order_of : (value : Option Tree) → IsSomeOrderly value → AreAscending (properties value)
  order_of (Some (map qs)) g = ascends qs g.0
  order_of None g = λ i j d less lt. absurd (omega arith)
  order_of (Some null) g = λ i j d less lt. absurd (omega arith)
  order_of (Some (flag b)) g = λ i j d less lt. absurd (omega arith)
  order_of (Some (num t)) g = λ i j d less lt. absurd (omega arith)
  order_of (Some (str t)) g = λ i j d less lt. absurd (omega arith)
  order_of (Some (list ts)) g = λ i j d less lt. absurd (omega arith)

  -- the numbers among the properties of an orderly map are numbers
  pub props_numbers : HaveScalars (properties (member key ps))
  props_numbers = numbers_of (member key ps) (member_good key ps h.1)

  -- its properties are in order
  pub props_ascend : AreAscending (properties (member key ps))
  props_ascend = order_of (member key ps) (member_good key ps h.1)
