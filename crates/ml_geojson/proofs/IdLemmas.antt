-- Ids that are taken, and the search for one that is not.
use Rattle.std.proofs.Common.{◌≡◌, ℕ, suc, ◌<◌, ◌≤◌, List, [], ◌∷◌, ◌++◌, length, max, Bool, true, false, ◌||◌, refl, sym, ap, ◌∙◌, arith, inl, inr}
use Rattle.std.specs.Prelude.{codes}
use Rattle.std.specs.HashSet.{HashSet}
use Rattle.std.specs.List.{list_any}
use Rattle.std.specs.Str.{bytes_eq}
use Rattle.std.proofs.Math.Nat.{le-max_left, le-max_right}
use Rattle.std.proofs.lemmas.Bool.{cases_lt}
use Rattle.std.proofs.lemmas.Slice.Eq.{bytes_eq-Decides}
use Rattle.ml_geojson.specs.Ids.{numbered, marked, IsFresh}
use Rattle.ml_geojson.specs.Taken.{is_taken}

-- the length of the longest text
abbrev pub longest : List (List ℕ) → ℕ
longest [] = 0
longest (x ∷ xs) = max (length x) (longest xs)

at_key : (t : Bool) (text key : List ℕ) (more : Bool) (n : ℕ) → bytes_eq text key ≡ t → (more ≡ true → length text ≤ n) → (t || more) ≡ true → length text ≤ max (length key) n
at_key true text key more n e others h =
    let same : text ≡ key = (bytes_eq-Decides text key).0 e in
    let one : length text ≡ length key = ap length same in
    let two = le-max_left (length key) n in
    omega arith
at_key false text key more n e others h = (let one = others h in let two = le-max_right (length key) n in omega arith)

any_key : (text : List ℕ) (keys : List (List ℕ)) → list_any (bytes_eq text) keys ≡ true → length text ≤ longest keys
any_key text [] h = absurd (let f : false ≡ true = h in cc)
any_key text (key ∷ keys) h = at_key (bytes_eq text key) text key (list_any (bytes_eq text) keys) (longest keys) refl (any_key text keys) h

-- a text that is taken is no longer than the longest
pub taken_short : {S : Type 0} (set : HashSet (List ℕ) S) (text : List ℕ) → is_taken set text ≡ true → length text ≤ longest set.keys
taken_short set text h = any_key text set.keys h

-- the signs so far, all of which were needed
pub record FreshSoFar (taken : List ℕ → Bool) (k : ℕ) (id : List ℕ) : Type 0 where
  pub signs : ℕ
  pub written : id ≡ marked signs k
  pub needed : (n : ℕ) → n < signs → taken (marked n k) ≡ true

module _ (taken : List ℕ → Bool) (k : ℕ) (id : List ℕ) where
  -- the search begins with a number sign and the place, and no further signs
  pub fresh_start : id ≡ numbered k → FreshSoFar taken k id
  fresh_start e = record { signs = 0; written = e; needed = λ n h. absurd (omega arith) }

  -- where the id is taken, the search goes on with one more number sign before it
  pub fresh_more : (next : List ℕ) → next ≡ codes "#" ++ id → taken id ≡ true → FreshSoFar taken k id → FreshSoFar taken k next
  fresh_more next e known so_far = record {
    signs = suc so_far.signs;
    written = e ∙ ap (λ (t : List ℕ). codes "#" ++ t) so_far.written;
    needed = λ n h.
        elim (cases_lt n so_far.signs) [
          | inl less ↦ so_far.needed n less
          | inr more ↦ (let same : n ≡ so_far.signs = omega arith in rw (same, sym so_far.written) known)
        ];
  }

  -- where the id is not taken, the search ends: it is the fresh one
  pub fresh_end : FreshSoFar taken k id → taken id ≡ false → IsFresh taken k id
  fresh_end so_far new = record { signs = so_far.signs; written = so_far.written; new = new; fewest = so_far.needed }
