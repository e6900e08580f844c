-- New slots of labels, one after another.
use Rattle.std.proofs.Common.{◌≡◌, ◌≢◌, ℕ, zero, suc, ◌≤◌, List, [], ◌∷◌, length, drop, refl, ap, arith, Bool, true, false}
use Rattle.std.specs.Prelude.{◌==◌, if◌then◌else◌}
use Rattle.std.proofs.lemmas.Bool.Decides.{nat_tests}
use Rattle.ml_store.specs.Moved.{moved_rows, moved_pairs}
use Rattle.ml_store.specs.declared.moved.Moved.{Moved}
use Rattle.ml_store.specs.declared.row.Row.{Row}

-- one thing for a number that is the same
pub if_same : {A : Type 0} (n m : ℕ) (s t : A) → n ≡ m → (if n == m then s else t) ≡ s
if_same n m s t e =
    let same : (n == m) ≡ true = grind (arith, nat_tests) in
    ap (λ (b : Bool). if b then s else t) same

-- and another for one that is not
pub if_other : {A : Type 0} (n m : ℕ) (s t : A) → n ≢ m → (if n == m then s else t) ≡ t
if_other n m s t e =
    let other : (n == m) ≡ false = grind (arith, nat_tests) in
    ap (λ (b : Bool). if b then s else t) other

-- no new slot changes no row
pub moved_none : (rows : List Row) → moved_rows [] rows ≡ rows
moved_none [] = refl
moved_none (r ∷ rows) = ap (λ rs. r ∷ rs) (moved_none rows)

-- nothing is left of new slots behind the last of them
pub pairs_none : (moved : List Moved) (k : ℕ) → length moved ≤ k → moved_pairs (drop k moved) ≡ 0
pairs_none [] zero le = refl
pairs_none [] (suc k) le = refl
pairs_none (m ∷ moved) zero le = absurd (omega arith)
pairs_none (m ∷ moved) (suc k) le = pairs_none moved k (omega arith)
