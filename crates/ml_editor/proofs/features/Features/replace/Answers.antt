use Rattle.std.proofs.Common.{◌≡◌, ℕ, ◌∙◌, ap, subst, sym, List, map, Option, IsSome, Some, None}
use Rattle.std.proofs.lemmas.Bool.{false≢true}
use Rattle.ml_ratio.specs.declared.feature.Feature.{Feature}
use Rattle.ml_editor.specs.State.{HasFeature, in_place}
use Rattle.ml_editor.specs.Features.{standing, number_with}
use Rattle.ml_editor.proofs.Numbered.{number_known, list_in_place, are_in_place}
use Rattle.ml_editor.proofs.features.Features.replace.Goals as goal

is_some_none : {X : Type 0} (o : Option X) → IsSome o → o ≡ None → ⊥
is_some_none o some none = let P : Option _ → Type 0 = IsSome in absurd (false≢true (subst P none some))

pub unreachable-requires : goal.unreachable-requires
unreachable-requires c =
    let list = ap (λ s. s.list) c.self.view_is in
    let es = standing c.self.inside.places.entries in
    let P : List Feature → Type 0 = λ fs. HasFeature fs c.args.feature.id in
    let none = subst (λ (k : List ℕ). number_with k es ≡ None) c.requires.key (sym (c.self.invariant.found c.args.key) ∙ sym c.in-None.ensures.value) in
    is_some_none (number_with c.args.feature.id es) (number_known es c.args.feature.id (subst P (sym list) c.requires.known)) none

pub invariant_of-self : goal.invariant_of-self
invariant_of-self c =
    let n = c.in-Some.number.now in
    let has = subst (λ (k : List ℕ). number_with k (standing c.self.inside.places.entries) ≡ Some n) c.requires.key (sym (c.self.invariant.found c.args.key) ∙ sym c.in-Some.ensures.value) in
    are_in_place c.self.inside.places.entries c.self.inside.names.entries c.self.inside.next c.self.inside.taken c.self.invariant
    c.set_place.new.places.entries c.args.feature n has c.set_place.ensures.entries c.set_place.ensures.keys

pub returns : goal.returns
returns c =
    let list = ap (λ s. s.list) c.self.view_is in
    let n = c.in-Some.number.now in
    let has = subst (λ (k : List ℕ). number_with k (standing c.self.inside.places.entries) ≡ Some n) c.requires.key (sym (c.self.invariant.found c.args.key) ∙ sym c.in-Some.ensures.value) in
    list_in_place c.self.inside.places.entries c.self.inside.names.entries c.self.inside.next c.self.inside.taken c.self.invariant
    c.set_place.new.places.entries c.args.feature n has c.set_place.ensures.entries
    ∙ ap (map (in_place c.args.feature)) list
