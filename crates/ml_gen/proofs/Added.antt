-- The features of groups, put one behind another.
use Rattle.std.proofs.Common.{◌≡◌, ℕ, ◌+◌, ◌<◌, List, [], ◌∷◌, ◌++◌, length, get_or, take, map, flat_map, sym, ap, ◌∙◌, append_assoc, append-nil}
use Rattle.std.proofs.lemmas.List.{map-append, take_more}
use Rattle.std.proofs.lemmas.Grind.{flat_map-append}
use Rattle.ml_ratio.specs.declared.feature.Feature.{Feature}
use Rattle.ml_gen.specs.Thing.{Thing, thing_of, things_in}
use Rattle.ml_gen.specs.declared.group.Group.{Group}

-- one feature more behind what was added
step : (old mid new added : List Feature) (f : Feature) → mid ≡ old ++ added → new ≡ mid ++ f ∷ [] → new ≡ old ++ (added ++ f ∷ [])
step old mid new added f so_far more = more ∙ ap (λ (fs : List Feature). fs ++ f ∷ []) so_far ∙ append_assoc old added (f ∷ [])

-- five features more
pub five_more : (f0 f1 f2 f3 f4 f5 : List Feature) (a b c d e : Feature) →
    f1 ≡ f0 ++ a ∷ [] → f2 ≡ f1 ++ b ∷ [] → f3 ≡ f2 ++ c ∷ [] → f4 ≡ f3 ++ d ∷ [] → f5 ≡ f4 ++ e ∷ [] →
    map thing_of f5 ≡ map thing_of f0 ++ (thing_of a ∷ thing_of b ∷ thing_of c ∷ thing_of d ∷ thing_of e ∷ [])
five_more f0 f1 f2 f3 f4 f5 a b c d e one two three four five =
    let second = step f0 f1 f2 (a ∷ []) b one two in
    let third = step f0 f2 f3 (a ∷ b ∷ []) c second three in
    let fourth = step f0 f3 f4 (a ∷ b ∷ c ∷ []) d third four in
    let fifth = step f0 f4 f5 (a ∷ b ∷ c ∷ d ∷ []) e fourth five in
    ap (map thing_of) fifth ∙ map-append thing_of f0 (a ∷ b ∷ c ∷ d ∷ e ∷ [])

-- the features of one group more
pub things_more : (groups : List Group) (i : ℕ) (d : Group) (old new : List Thing) → i < length groups →
    old ≡ flat_map things_in (take i groups) → new ≡ old ++ things_in (get_or groups i d) → new ≡ flat_map things_in (take (i + 1) groups)
things_more groups i d old new lt so_far more =
    more ∙ ap (λ (ts : List Thing). ts ++ things_in (get_or groups i d)) so_far
    ∙ ap (λ (ts : List Thing). flat_map things_in (take i groups) ++ ts) (sym (append-nil (things_in (get_or groups i d))))
    ∙ sym (flat_map-append things_in (take i groups) (get_or groups i d ∷ []))
    ∙ ap (flat_map things_in) (sym (take_more groups i d lt))
