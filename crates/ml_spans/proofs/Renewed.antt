-- Entries that each got the end of their value.
use Rattle.std.proofs.Common.{◌≡◌, List, [], ◌∷◌, map, Contains, refl, subst}
use Rattle.std.specs.List.{AllByRecursion}
use Rattle.std.specs.Ordering.{ordering_then}
use Rattle.std.specs.Cmp.{IsTotalOrder, tied_itself}
use Rattle.std.specs.declared.cmp.Ordering.{Ordering}
use Rattle.std.specs.declared.cmp.Ordering.TheVariants.{Less, Equal, Greater}
use Rattle.std.proofs.lemmas.List.Elements.{All-contains_itself, recursion_from_All}
use Rattle.ml_spans.specs.Key.{IsExact}
use Rattle.ml_spans.specs.Order.{entry_order, IsRising}
use Rattle.ml_spans.specs.Spans.{renewed, HaveOwnPlaces}
use Rattle.ml_spans.specs.declared.entry.Entry.{Entry}
use Rattle.ml_spans.proofs.Rising.{apart}

-- where the first two of three answers tell two apart, the third one does not count
then_then : (k v e f : Ordering) → ordering_then k (ordering_then v e) ≡ Less → ((k ≡ Equal) × (v ≡ Equal) → ⊥) → ordering_then k (ordering_then v f) ≡ Less
then_then Less v e f less other = less
then_then Greater v e f less other = less
then_then Equal Less e f less other = less
then_then Equal Greater e f less other = less
then_then Equal Equal e f less other = absurd (other (refl, refl))

module _ {K E V : Type 0} (keys : K → K → Ordering) (ends : E → E → Ordering) (values : V → V → Ordering) where
  -- two entries that differ by their keys or their values keep their order
  one_before : IsExact keys → IsExact values → (next : V → E → E) (a b : Entry K E V) → (a.key ≡ b.key → a.value ≡ b.value → ⊥) →
      entry_order keys ends values a b ≡ Less → entry_order keys ends values (renewed next a) (renewed next b) ≡ Less
  one_before k v next a b other less =
      then_then (keys a.key b.key) (values a.value b.value) (ends a.end b.end) (ends (next a.value a.end) (next b.value b.end)) less (λ tied. other (k a.key b.key tied.0) (v a.value b.value tied.1))

  module _ (oe : IsTotalOrder (entry_order keys ends values)) (k : IsExact keys) (v : IsExact values) (next : V → E → E) (all : List (Entry K E V)) (apart_all : HaveOwnPlaces all) where
    -- different entries of the list differ by their keys or their values
    differ : (a b : Entry K E V) → Contains all a → Contains all b → entry_order keys ends values a b ≡ Less → a.key ≡ b.key → a.value ≡ b.value → ⊥
    differ a b in_a in_b less same_key same_value =
        apart (subst (λ other. entry_order keys ends values a other ≡ Equal) (apart_all a b in_a in_b same_key same_value) (tied_itself oe a)) less

    one_of_all : (a : Entry K E V) (rest : List (Entry K E V)) → Contains all a →
        AllByRecursion (Contains all) rest → AllByRecursion (λ b. entry_order keys ends values a b ≡ Less) rest →
        AllByRecursion (λ b. entry_order keys ends values (renewed next a) b ≡ Less) (map (renewed next) rest)
    one_of_all a [] in_a inside less = tt
    one_of_all a (b ∷ rest) in_a inside less = (one_before k v next a b (differ a b in_a inside.0 less.0) less.0, one_of_all a rest in_a inside.1 less.1)

    rest_rises : (rest : List (Entry K E V)) → AllByRecursion (Contains all) rest → IsRising (entry_order keys ends values) rest → IsRising (entry_order keys ends values) (map (renewed next) rest)
    rest_rises [] inside r = tt
    rest_rises (a ∷ rest) inside r = (one_of_all a rest inside.0 inside.1 r.0, rest_rises rest inside.1 r.1)

    -- so entries keep their order where no two of them share key and value
    pub renewed_rises : IsRising (entry_order keys ends values) all → IsRising (entry_order keys ends values) (map (renewed next) all)
    renewed_rises r = rest_rises all (recursion_from_All (Contains all) all (All-contains_itself all)) r
