-- When two texts are the same.
use Rattle.std.proofs.Common.{◌≡◌, Bool, true, false, List, ℕ, refl}
use Rattle.std.proofs.lemmas.Slice.Eq.{slice_eq-Decides}
use Rattle.std.specs.Bool.{Decides}
use Rattle.std.specs.Cmp.{unsigned_Decides}
use Rattle.std.specs.Cmp.Lexicographic.{pointwise}
use Rattle.std.specs.Prelude.{MatchBool, nat_eq}

-- where a test decides a fact, the fact holds if it says yes, and does not if it says no
pub matched : (P : Type 0) (b : Bool) → Decides b P → MatchBool b P (¬ P)
matched P true d = d.0 refl
matched P false d = λ p. let e : false ≡ true = d.1 p in cc

-- `==` of two texts says whether they are the same
pub texts_decide : (one other : List ℕ) → Decides (pointwise nat_eq one other) (one ≡ other)
texts_decide one other = slice_eq-Decides unsigned_Decides one other (pointwise nat_eq one other) refl
