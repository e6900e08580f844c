-- Members in byte order of keys stay so when others are put in.
use Rattle.std.proofs.Common.{◌≡◌, ℕ, List, refl, sym, ◌∙◌, ap, subst}
use Rattle.std.proofs.lemmas.Cmp.{nat_list_cmp_total}
use Rattle.std.proofs.lemmas.Map.Lookups.{exact_bytes}
use Rattle.std.specs.declared.cmp.Ordering.{Ordering}
use Rattle.std.specs.declared.cmp.Ordering.TheVariants.{Less, Equal, Greater}
use Rattle.std.specs.Ordering.{nat_cmp, match_ordering, ordering_reverse}
use Rattle.std.specs.Cmp.Lexicographic.{slice_cmp}
use Rattle.ml_json.specs.Canonical.{IsAscending}
use Rattle.ml_json.specs.Tree.{Tree, Pairs, no_pairs, pair, put, put_all}

-- the first key is above
abbrev pub First : List ℕ → Pairs → Type 0
First k no_pairs = Unit {0}
First k (pair l w ps) = slice_cmp nat_cmp k l ≡ Less

ascending_on : (k : List ℕ) (v : Tree) (ps : Pairs) → First k ps → IsAscending ps → IsAscending (pair k v ps)
ascending_on k v no_pairs h g = tt
ascending_on k v (pair l w ps) h g = (h, g)

-- what follows a key in order begins above it
pub first_of : (k : List ℕ) (v : Tree) (ps : Pairs) → IsAscending (pair k v ps) → First k ps
first_of k v no_pairs h = tt
first_of k v (pair l w ps) h = h.0

-- what follows a key in order is in order
pub later_of : (k : List ℕ) (v : Tree) (ps : Pairs) → IsAscending (pair k v ps) → IsAscending ps
later_of k v no_pairs h = tt
later_of k v (pair l w ps) h = h.1

-- what one comparison makes of the pairs
placed : Ordering → List ℕ → Tree → List ℕ → Tree → Pairs → Pairs
placed o k v l w ps = match_ordering o (pair k v (pair l w ps)) (pair k v ps) (pair l w (put k v ps))

-- of two keys one is below where the other is above
pub below : (k l : List ℕ) → slice_cmp nat_cmp k l ≡ Greater → slice_cmp nat_cmp l k ≡ Less
below k l h = nat_list_cmp_total.antisymm l k ∙ ap ordering_reverse h

first_placed : (j k : List ℕ) (v : Tree) (l : List ℕ) (w : Tree) (ps : Pairs) (o : Ordering) → slice_cmp nat_cmp j k ≡ Less → slice_cmp nat_cmp j l ≡ Less
    → First j (match_ordering o (pair k v (pair l w ps)) (pair k v ps) (pair l w (put k v ps)))
first_placed j k v l w ps Less h g = h
first_placed j k v l w ps Equal h g = h
first_placed j k v l w ps Greater h g = g

first_put : (j k : List ℕ) (v : Tree) (ps : Pairs) → slice_cmp nat_cmp j k ≡ Less → First j ps → First j (put k v ps)
first_put j k v no_pairs h g = h
first_put j k v (pair l w ps) h g = first_placed j k v l w ps (slice_cmp nat_cmp k l) h g

ascending_placed : (k : List ℕ) (v : Tree) (l : List ℕ) (w : Tree) (ps : Pairs) (o : Ordering) → slice_cmp nat_cmp k l ≡ o → IsAscending (pair l w ps) → IsAscending (put k v ps)
    → IsAscending (match_ordering o (pair k v (pair l w ps)) (pair k v ps) (pair l w (put k v ps)))
ascending_placed k v l w ps Less e h g = (e, h)
ascending_placed k v l w ps Equal e h g = subst (λ x. IsAscending (pair x v ps)) (sym (exact_bytes k l e)) (ascending_on l v ps (first_of l w ps h) (later_of l w ps h))
ascending_placed k v l w ps Greater e h g = ascending_on l w (put k v ps) (first_put l k v ps (below k l e) (first_of l w ps h)) g

-- members in order stay so when one is put in
pub ascending_put : (k : List ℕ) (v : Tree) (ps : Pairs) → IsAscending ps → IsAscending (put k v ps)
ascending_put k v no_pairs h = tt
ascending_put k v (pair l w ps) h = ascending_placed k v l w ps (slice_cmp nat_cmp k l) refl h (ascending_put k v ps (later_of l w ps h))

-- and when several are
pub ascending_all : (ps ms : Pairs) → IsAscending ps → IsAscending (put_all ps ms)
ascending_all ps no_pairs h = h
ascending_all ps (pair k v ms) h = ascending_all (put k v ps) ms (ascending_put k v ps h)
