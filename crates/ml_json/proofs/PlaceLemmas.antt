-- Where a member stands among others in byte order of keys.
use Rattle.std.proofs.Common.{◌≡◌, ℕ, ◌+◌, suc, add-one, slice_set, ◌<◌, List, [], ◌∷◌, ◌++◌, length, take, drop, get_or, refl, sym, ◌∙◌, ap, subst}
use Rattle.std.proofs.lemmas.Cmp.{nat_list_cmp_total}
use Rattle.std.proofs.lemmas.List.{drop_more, take_more, take-append-drop, set_split}
use Rattle.std.proofs.lemmas.Map.Lookups.{exact_bytes}
use Rattle.std.specs.List.{insert}
use Rattle.std.specs.Ordering.{nat_cmp, ordering_reverse}
use Rattle.std.specs.Cmp.Lexicographic.{slice_cmp}
use Rattle.std.specs.declared.cmp.Ordering.{Ordering}
use Rattle.std.specs.declared.cmp.Ordering.TheVariants.{Less, Equal, Greater}
use Rattle.ml_json.specs.Canonical.{IsAscending}
use Rattle.ml_json.specs.Tree.{Tree, Pairs, no_pairs, pair, put}
use Rattle.ml_json.specs.Lent.{lent_of, lent_pair_of, lent_pairs_view}
use Rattle.ml_json.specs.Sorted.{onto}
use Rattle.ml_json.specs.declared.lent.Lent.{Lent}
use Rattle.ml_json.specs.declared.lent.LentPair.{LentPair, out-LentPair, roll-LentPair}
use Rattle.ml_json.proofs.Ascending.{First, later_of, below}
use Rattle.ml_json.proofs.PutLemmas.{onto_push, pair_out, pair_rolled}

-- a pair's key
abbrev key_of : LentPair → List ℕ
key_of p = (lent_pair_of p).0

-- a comparison with the key of a pair by its fields
pub compared : (k : List ℕ) (p : LentPair) {o found : Ordering} → found ≡ slice_cmp nat_cmp k (out-LentPair p).key → found ≡ o → slice_cmp nat_cmp k (key_of p) ≡ o
compared k p e is = ap (λ (q : List ℕ × Tree). slice_cmp nat_cmp k q.0) (pair_out p) ∙ sym e ∙ is

-- pairs and others behind them, as a list or as members
pub onto_more : (xs : List LentPair) (x : LentPair) (rest : List LentPair) → lent_pairs_view (xs ++ x ∷ rest) ≡ onto xs (pair (key_of x) (lent_pair_of x).1 (lent_pairs_view rest))
onto_more [] x rest = refl
onto_more (y ∷ xs) x rest = ap (pair (key_of y) (lent_pair_of y).1) (onto_more xs x rest)

-- a list at one of its pairs
apart : (ps : List LentPair) (at : ℕ) (d : LentPair) → at < length ps → ps ≡ take at ps ++ get_or ps at d ∷ drop (at + 1) ps
apart ps at d lt = sym (take-append-drop at ps) ∙ ap (λ xs. take at ps ++ xs) (drop_more ps at d lt)

-- what is put in goes where its key is not above the first one
put_first : (k : List ℕ) (v : Tree) (ps : Pairs) → First k ps → put k v ps ≡ pair k v ps
put_first k v no_pairs h = refl
put_first k v (pair l w ps) h = rw h refl

-- whatever is below one key is below another
abbrev Reaches : List ℕ → List ℕ → Type 0
Reaches k l = (j : List ℕ) → slice_cmp nat_cmp j l ≡ Less → slice_cmp nat_cmp k j ≡ Greater

-- the first of keys in order is below a later one
head_below : (j : List ℕ) (u : Tree) (ps : List LentPair) (l : List ℕ) (w : Tree) (r : Pairs) → IsAscending (pair j u (onto ps (pair l w r))) → slice_cmp nat_cmp j l ≡ Less
head_below j u [] l w r h = h.0
head_below j u (q ∷ ps) l w r h = nat_list_cmp_total.trans j (key_of q) l h.0 (head_below (key_of q) (lent_pair_of q).1 ps l w r h.1)

-- a member is put in behind what stands before a key that is not above its own
put_behind : (k : List ℕ) (v : Tree) (ps : List LentPair) (l : List ℕ) (w : Tree) (r : Pairs) → Reaches k l → IsAscending (onto ps (pair l w r))
    → put k v (onto ps (pair l w r)) ≡ onto ps (put k v (pair l w r))
put_behind k v [] l w r reaches h = refl
put_behind k v (p ∷ ps) l w r reaches h =
    rw (reaches (key_of p) (head_below (key_of p) (lent_pair_of p).1 ps l w r h))
    (ap (pair (key_of p) (lent_pair_of p).1) (put_behind k v ps l w r reaches (later_of (key_of p) (lent_pair_of p).1 (onto ps (pair l w r)) h)))

above : (k l : List ℕ) → slice_cmp nat_cmp k l ≡ Less → slice_cmp nat_cmp l k ≡ Greater
above k l h = nat_list_cmp_total.antisymm l k ∙ ap ordering_reverse h

greater_reaches : (k l : List ℕ) → slice_cmp nat_cmp k l ≡ Greater → Reaches k l
greater_reaches k l g j h = above j k (nat_list_cmp_total.trans j l k h (below k l g))

equal_reaches : (k l : List ℕ) → slice_cmp nat_cmp k l ≡ Equal → Reaches k l
equal_reaches k l e j h = above j k (subst (λ x. slice_cmp nat_cmp j x ≡ Less) (sym (exact_bytes k l e)) h)

module _ (k : List ℕ) (ps : List LentPair) (at : ℕ) (d : LentPair) (lt : at < length ps) (ascending : IsAscending (lent_pairs_view ps)) where
  abbrev rest : Pairs
  rest = lent_pairs_view (drop (at + 1) ps)

  split : lent_pairs_view ps ≡ onto (take at ps) (pair (key_of (get_or ps at d)) (lent_pair_of (get_or ps at d)).1 rest)
  split = ap lent_pairs_view (apart ps at d lt) ∙ onto_more (take at ps) (get_or ps at d) (drop (at + 1) ps)

  put_split : (v : Tree) → Reaches k (key_of (get_or ps at d)) → put k v (lent_pairs_view ps)
      ≡ onto (take at ps) (put k v (pair (key_of (get_or ps at d)) (lent_pair_of (get_or ps at d)).1 rest))
  put_split v reaches = ap (put k v) split ∙ put_behind k v (take at ps) _ _ rest reaches (subst IsAscending split ascending)

  -- at a pair with the same key
  pub put_at : (v : Tree) → slice_cmp nat_cmp k (key_of (get_or ps at d)) ≡ Equal → put k v (lent_pairs_view ps) ≡ onto (take at ps) (pair k v rest)
  put_at v e = put_split v (equal_reaches k _ e) ∙ rw e refl

  -- between a pair whose key is below and what is above
  pub put_between : (v : Tree) → slice_cmp nat_cmp k (key_of (get_or ps at d)) ≡ Greater → First k rest → put k v (lent_pairs_view ps) ≡ onto (take (at + 1) ps) (pair k v rest)
  put_between v g first =
      put_split v (greater_reaches k _ g)
      ∙ rw g (ap (λ x. onto (take at ps) (pair (key_of (get_or ps at d)) (lent_pair_of (get_or ps at d)).1 x)) (put_first k v rest first))
      ∙ sym (ap (λ xs. onto xs (pair k v rest)) (take_more ps at d lt) ∙ onto_push (take at ps) (get_or ps at d) (pair k v rest))

-- behind a pair that is above, what begins there is above
pub first_here : (k : List ℕ) (ps : List LentPair) (at : ℕ) (d : LentPair) → at < length ps → slice_cmp nat_cmp k (key_of (get_or ps at d)) ≡ Less → First k (lent_pairs_view (drop at ps))
first_here k ps at d lt less = subst (λ xs. First k (lent_pairs_view xs)) (sym (drop_more ps at d lt)) less

-- in front of all
pub put_front : (k : List ℕ) (v : Tree) (ps : List LentPair) → First k (lent_pairs_view ps) → put k v (lent_pairs_view ps) ≡ onto (take 0 ps) (pair k v (lent_pairs_view (drop 0 ps)))
put_front k v ps first = put_first k v (lent_pairs_view ps) first

made_onto : (k : List ℕ) (v : Lent) (xs rest : List LentPair) → lent_pairs_view (xs ++ roll-LentPair record { key = k; value = v } ∷ rest) ≡ onto xs (pair k (lent_of v) (lent_pairs_view rest))
made_onto k v xs rest = onto_more xs _ rest ∙ ap (λ (p : List ℕ × Tree). onto xs (pair p.0 p.1 (lent_pairs_view rest))) (pair_rolled k v)

-- a pair that is written over one with its key
pub put_set : (k : List ℕ) (v : Lent) (ps : List LentPair) (at : ℕ) → at < length ps
    → put k (lent_of v) (lent_pairs_view ps) ≡ onto (take at ps) (pair k (lent_of v) (lent_pairs_view (drop (at + 1) ps)))
    → lent_pairs_view (slice_set ps at (roll-LentPair record { key = k; value = v })) ≡ put k (lent_of v) (lent_pairs_view ps)
put_set k v ps at lt e =
    ap lent_pairs_view (set_split ps at _ lt) ∙ made_onto k v (take at ps) (drop (suc at) ps)
    ∙ ap (λ (n : ℕ). onto (take at ps) (pair k (lent_of v) (lent_pairs_view (drop n ps)))) (sym (add-one at)) ∙ sym e

-- a pair that is put in front of those that are above
pub put_insert : (k : List ℕ) (v : Lent) (ps : List LentPair) (at : ℕ) → put k (lent_of v) (lent_pairs_view ps) ≡ onto (take at ps) (pair k (lent_of v) (lent_pairs_view (drop at ps)))
    → lent_pairs_view (insert ps at (roll-LentPair record { key = k; value = v })) ≡ put k (lent_of v) (lent_pairs_view ps)
put_insert k v ps at e = made_onto k v (take at ps) (drop at ps) ∙ sym e
