-- Members in byte order of their keys, each key once, stay as they are when they are put in one after another.
use Rattle.std.proofs.Common.{◌≡◌, ℕ, List, refl, sym, ◌∙◌, ap}
use Rattle.std.specs.Ordering.{nat_cmp, ordering_reverse}
use Rattle.std.specs.Cmp.Lexicographic.{slice_cmp}
use Rattle.std.specs.declared.cmp.Ordering.TheVariants.{Less, Greater}
use Rattle.std.proofs.lemmas.Cmp.{nat_list_cmp_total}
use Rattle.ml_json.specs.Canonical.{IsAscending}
use Rattle.ml_json.specs.Tree.{Tree, Pairs, no_pairs, pair, put, put_all}

-- keys in order, each once
abbrev Above : List ℕ → Pairs → Type 0
Above k no_pairs = Unit {0}
Above k (pair l v ps) = (slice_cmp nat_cmp k l ≡ Greater) × Above k ps

abbrev onto : Pairs → Pairs → Pairs
onto no_pairs r = r
onto (pair k v ps) r = pair k v (onto ps r)

put_above : (k : List ℕ) (v : Tree) (ps : Pairs) → Above k ps → put k v ps ≡ onto ps (pair k v no_pairs)
put_above k v no_pairs h = refl
put_above k v (pair l w ps) h = rw (h.0) (ap (pair l w) (put_above k v ps h.1))

-- each key of the second is above each of the first
abbrev AllAbove : Pairs → Pairs → Type 0
AllAbove acc no_pairs = Unit {0}
AllAbove acc (pair k v ps) = Above k acc × AllAbove acc ps

abbrev EachSorted : Pairs → Type 0
EachSorted no_pairs = Unit {0}
EachSorted (pair k v ps) = AllAbove (pair k v no_pairs) ps × EachSorted ps

above_onto : (k : List ℕ) (ps qs : Pairs) → Above k ps → Above k qs → Above k (onto ps qs)
above_onto k no_pairs qs h g = g
above_onto k (pair l v ps) qs h g = (h.0, above_onto k ps qs h.1 g)

all_onto : (acc qs ps : Pairs) → AllAbove acc ps → AllAbove qs ps → AllAbove (onto acc qs) ps
all_onto acc qs no_pairs h g = tt
all_onto acc qs (pair k v ps) h g = (above_onto k acc qs h.0 g.0, all_onto acc qs ps h.1 g.1)

onto_one : (acc : Pairs) (k : List ℕ) (v : Tree) (ps : Pairs) → onto (onto acc (pair k v no_pairs)) ps ≡ onto acc (pair k v ps)
onto_one no_pairs k v ps = refl
onto_one (pair l w acc) k v ps = ap (pair l w) (onto_one acc k v ps)

onto_nothing : (acc : Pairs) → onto acc no_pairs ≡ acc
onto_nothing no_pairs = refl
onto_nothing (pair k v ps) = ap (pair k v) (onto_nothing ps)

all_above_nothing : (ps : Pairs) → AllAbove no_pairs ps
all_above_nothing no_pairs = tt
all_above_nothing (pair k v ps) = (tt, all_above_nothing ps)

put_all_sorted : (acc ps : Pairs) → AllAbove acc ps → EachSorted ps → put_all acc ps ≡ onto acc ps
put_all_sorted acc no_pairs h g = sym (onto_nothing acc)
put_all_sorted acc (pair k v ps) h g =
    ap (λ x. put_all x ps) (put_above k v acc h.0) ∙ put_all_sorted (onto acc (pair k v no_pairs)) ps (all_onto acc (pair k v no_pairs) ps h.1 g.0) g.1 ∙ onto_one acc k v ps

-- members each of whose keys is below all later ones stay as they are when they are put in one after another
pub sorted_stays : (ps : Pairs) → EachSorted ps → put_all no_pairs ps ≡ ps
sorted_stays ps g = put_all_sorted no_pairs ps (all_above_nothing ps) g

-- each key is below all that follow it, if it is below the next
flipped : (k l : List ℕ) → slice_cmp nat_cmp k l ≡ Less → slice_cmp nat_cmp l k ≡ Greater
flipped k l h = nat_list_cmp_total.antisymm l k ∙ ap ordering_reverse h

below_all : (j k : List ℕ) (v w : Tree) (ps : Pairs) → slice_cmp nat_cmp j k ≡ Less → IsAscending (pair k w ps) → AllAbove (pair j v no_pairs) (pair k w ps)
below_all j k v w no_pairs h g = ((flipped j k h, tt), tt)
below_all j k v w (pair l x ps) h g = ((flipped j k h, tt), below_all j l v x ps (nat_list_cmp_total.trans j k l h g.0) g.1)

each_sorted : (ps : Pairs) → IsAscending ps → EachSorted ps
each_sorted no_pairs h = tt
each_sorted (pair k v no_pairs) h = (tt, tt)
each_sorted (pair k v (pair l w ps)) h = (below_all k l v w ps h.0 h.1, each_sorted (pair l w ps) h.1)

-- members in byte order of keys, each once, stay as they are
pub ascending_stays : (ps : Pairs) → IsAscending ps → put_all no_pairs ps ≡ ps
ascending_stays ps h = sorted_stays ps (each_sorted ps h)
