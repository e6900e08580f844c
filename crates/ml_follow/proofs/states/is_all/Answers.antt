use Rattle.std.proofs.Common.{◌≡◌, ◌≢◌, ℕ, suc, eqb, List, [], ◌∷◌, length, Option, Some, None, Bool, false, inl, inr, refl, sym, ◌∙◌, ap, ◌⊎◌, arith}
use Rattle.std.specs.Prelude.{MatchBool}
use Rattle.std.proofs.lemmas.Bool.Decides.{nat_tests}
use Rattle.ml_follow.specs.declared.opened.Opened.{Opened}
use Rattle.ml_follow.proofs.states.is_all.Goals as goal

some_length : (n : ℕ) → eqb (suc n) 0 ≡ false
some_length n = grind (arith, nat_tests)

by_test : (xs : List ℕ) (last : Option Opened) (b : Bool) → b ≡ eqb (length xs) 0 → last ≡ None → MatchBool b ((xs ≡ []) × (last ≡ None)) ((xs ≢ []) ⊎ (last ≢ None))
by_test [] last b e h = rw e (refl, h)
by_test (x ∷ xs) last b e h = rw (e ∙ some_length (length xs)) (inl (λ same. absurd (let n = ap length same in omega arith)))

pub returns-in-None : goal.returns-in-None
returns-in-None c = by_test c.args.rest.now c.args.last.now c.is_empty.result c.is_empty.ensures c.in-None.is

pub returns-in-Some : goal.returns-in-Some
returns-in-Some c = inr (λ none. let e : None ≡ Some c.in-Some.field-0 = sym none ∙ c.in-Some.is in absurd cc)
