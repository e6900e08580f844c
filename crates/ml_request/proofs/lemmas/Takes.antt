-- Bytes that are taken, and put, one piece after another.
use Rattle.std.proofs.Common.{ℕ, ◌≡◌, List, [], ◌∷◌, ◌++◌, Option, Some, None, refl, ap, ◌∙◌, sym, subst, append_assoc, append-nil}
use Rattle.ml_io.specs.Causes.{Appends}
use Rattle.ml_io.specs.Takes.{Draws, IsUsedUp}
use Rattle.ml_request.specs.Held.{Gains}

-- a source that stays as it is gave nothing
pub takes_nothing : (left : Option (List ℕ)) → Draws left left []
takes_nothing None = tt
takes_nothing (Some all) = (all, refl, refl)

-- where nothing is left, nothing comes
pub nothing_left : (b c : Option (List ℕ)) (q : List ℕ) → IsUsedUp b → Draws b c q → IsUsedUp c
nothing_left None c q none draws = draws
nothing_left (Some all) c q none draws =
    let empty : [] ≡ q ++ draws.0 = sym none ∙ draws.2 in
    subst IsUsedUp (sym draws.1) (no_more q draws.0 empty)
  where
    no_more : (q rest : List ℕ) → [] ≡ q ++ rest → rest ≡ []
    no_more [] rest e = sym e
    no_more (x ∷ q) rest e = cc

-- what a source gave at first and then is the two together
pub takes_twice : (a b c : Option (List ℕ)) (p q : List ℕ) → Draws a b p → Draws b c q → Draws a c (p ++ q)
takes_twice None b c p q first second = nothing_left b c q first second
takes_twice (Some all) b c p q first second =
    let then = rw first.1 at second in
    (then.0, then.1, first.2 ∙ ap (λ xs. p ++ xs) then.2 ∙ sym (append_assoc p q then.0))

-- where the source and the held bytes stay as they are, nothing was gained
pub gains_nothing : (left : Option (List ℕ)) (held : List ℕ) → Gains left left held held
gains_nothing left held = record { taken = []; takes = takes_nothing left; behind = sym (append-nil held) }

-- where bytes were gained twice, all of them stand behind those that were held at first
pub gains_twice : (a b c : Option (List ℕ)) (h i j : List ℕ) → Gains a b h i → Gains b c i j → Gains a c h j
gains_twice a b c h i j first second = record {
  taken = first.taken ++ second.taken;
  takes = takes_twice a b c first.taken second.taken first.takes second.takes;
  behind = second.behind ∙ ap (λ xs. xs ++ second.taken) first.behind ∙ append_assoc h first.taken second.taken;
}

-- a sink that stays as it is took nothing
pub appends_nothing : (written : Option (List ℕ)) → Appends written written []
appends_nothing None = refl
appends_nothing (Some xs) = ap Some (sym (append-nil xs))

-- what a sink took at first and then is the two together
pub appends_twice : (a b c : Option (List ℕ)) (p q : List ℕ) → Appends a b p → Appends b c q → Appends a c (p ++ q)
appends_twice None b c p q first second = rw first at second
appends_twice (Some xs) b c p q first second = (rw first at second) ∙ ap Some (append_assoc xs p q)
