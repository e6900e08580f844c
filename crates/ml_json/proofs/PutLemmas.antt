-- A map's entries as the members of a tree.
use Rattle.std.proofs.Common.{◌≡◌, ℕ, List, [], ◌∷◌, ◌++◌, refl, sym, ap}
use Rattle.std.proofs.lemmas.Map.Lookups.{exact_bytes}
use Rattle.std.specs.BTreeMap.{insert_entry}
use Rattle.std.specs.declared.cmp.Ordering.{Ordering}
use Rattle.std.specs.declared.cmp.Ordering.TheVariants.{Less, Equal, Greater}
use Rattle.std.specs.Ordering.{nat_cmp, match_ordering}
use Rattle.std.specs.Cmp.Lexicographic.{slice_cmp}
use Rattle.ml_json.specs.Tree.{Tree, Pairs, no_pairs, pair, put}
use Rattle.ml_json.specs.Lent.{lent_of, lent_pair_of, lent_pairs_view, lent_step, lent_pair_step}
use Rattle.ml_json.specs.Sorted.{entries_view, onto}
use Rattle.ml_json.specs.declared.lent.Lent.{Lent}
use Rattle.ml_json.specs.declared.lent.LentPair.{LentPair, out-LentPair, roll-LentPair, fold_out-LentPair, fold-roll-LentPair}

-- the entries of one comparison
placed : (k : List ℕ) (v : Lent) (l : List ℕ) (w : Lent) (es : List (List ℕ × Lent)) (o : Ordering) →
    slice_cmp nat_cmp k l ≡ o → entries_view (insert_entry (slice_cmp nat_cmp) es k v) ≡ put k (lent_of v) (entries_view es) →
    entries_view (match_ordering o ((k, v) ∷ (l, w) ∷ es) ((l, v) ∷ es) ((l, w) ∷ insert_entry (slice_cmp nat_cmp) es k v)) ≡ match_ordering o
    (pair k (lent_of v) (pair l (lent_of w) (entries_view es))) (pair k (lent_of v) (entries_view es)) (pair l (lent_of w) (put k (lent_of v) (entries_view es)))
placed k v l w es Less e h = refl
placed k v l w es Equal e h = ap (λ x. pair x (lent_of v) (entries_view es)) (sym (exact_bytes k l e))
placed k v l w es Greater e h = ap (pair l (lent_of w)) h

-- an entry put into a map is a member put into the tree
pub entries_put : (es : List (List ℕ × Lent)) (k : List ℕ) (v : Lent) → entries_view (insert_entry (slice_cmp nat_cmp) es k v) ≡ put k (lent_of v) (entries_view es)
entries_put [] k v = refl
entries_put ((l, w) ∷ es) k v = placed k v l w es (slice_cmp nat_cmp k l) refl (entries_put es k v)

-- the key and tree of a pair by its fields
pub pair_out : (p : LentPair) → lent_pair_of p ≡ ((out-LentPair p).key, lent_of (out-LentPair p).value)
pair_out p = fold_out-LentPair Tree (List ℕ × Tree) lent_step lent_pair_step p

-- the key and tree of a pair that is made of a key and a value
pub pair_rolled : (k : List ℕ) (v : Lent) → lent_pair_of (roll-LentPair record { key = k; value = v }) ≡ (k, lent_of v)
pair_rolled k v = fold-roll-LentPair Tree (List ℕ × Tree) lent_step lent_pair_step record { key = k; value = v }

-- a pair more at the end
pub onto_push : (xs : List LentPair) (x : LentPair) (r : Pairs) → onto (xs ++ x ∷ []) r ≡ onto xs (pair (lent_pair_of x).0 (lent_pair_of x).1 r)
onto_push [] x r = refl
onto_push (y ∷ xs) x r = ap (pair (lent_pair_of y).0 (lent_pair_of y).1) (onto_push xs x r)

-- pairs in front of nothing
pub onto_nothing : (xs : List LentPair) → onto xs no_pairs ≡ lent_pairs_view xs
onto_nothing [] = refl
onto_nothing (x ∷ xs) = ap (pair (lent_pair_of x).0 (lent_pair_of x).1) (onto_nothing xs)
