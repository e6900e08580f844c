use Rattle.std.proofs.Common.{◌≡◌, ℕ, ◌∙◌, ap, subst, sym, nat_eq, List, Option, Some, None}
use Rattle.std.specs.Map.{values_of, lookup}
use Rattle.std.specs.Option.{option_copied}
use Rattle.std.specs.Str.{bytes_eq}
use Rattle.ml_ratio.specs.declared.feature.Feature.{Feature}
use Rattle.ml_editor.specs.Features.{AreNumbered, standing}
use Rattle.ml_editor.proofs.Entries.{Finds, finds}
use Rattle.ml_editor.proofs.Numbers.{Place, at_place, by_id, by_values, by_own, place_is, none_by}
use Rattle.ml_editor.proofs.features.Features.get.Goals as goal

-- what a look-up by the id finds among the features
among : (places : List Place) (now : List Feature) (id : List ℕ) (found : Option Feature) →
    values_of (standing places) ≡ now → lookup (bytes_eq id) (by_id (standing places)) ≡ found → Finds now id found
among places now id found list is =
    let es = standing places in
    let P : List Feature → Type 0 = λ fs. Finds fs id found in
    let Q : Option Feature → Type 0 = λ o. Finds (values_of (by_id es)) id o in
    subst P (by_values es ∙ list) (subst Q is (finds id (by_id es) (by_own es)))

-- the place of its number has the feature
at : (places : List Place) (names : List (List ℕ × ℕ)) (next taken : ℕ) (now : List Feature) (id : List ℕ) (n : ℕ) (found : Option Feature) →
    AreNumbered places names next taken → values_of (standing places) ≡ now →
    lookup (bytes_eq id) names ≡ Some n → at_place (lookup (nat_eq n) places) ≡ found → Finds now id found
at places names next taken now id n found are list named is =
    among places now id found list (sym (place_is id n places are.differ (sym (are.found id) ∙ named)) ∙ is)

pub returns-in-Some-get : goal.returns-in-Some-get
returns-in-Some-get c =
    at c.self.inside.places.entries c.self.inside.names.entries c.self.inside.next c.self.inside.taken c.args.self.now.list c.args.id.now c.in-Some.number.now (option_copied c.as_ref.result)
    c.self.invariant (ap (λ s. s.list) c.self.view_is) (sym c.in-Some.ensures.value)
    (ap at_place (sym c.in-Some-get.ensures.value) ∙ sym c.as_ref.ensures.value)

pub returns-in-None-get : goal.returns-in-None-get
returns-in-None-get c =
    at c.self.inside.places.entries c.self.inside.names.entries c.self.inside.next c.self.inside.taken c.args.self.now.list c.args.id.now c.in-Some.number.now None
    c.self.invariant (ap (λ s. s.list) c.self.view_is) (sym c.in-Some.ensures.value)
    (ap at_place (sym c.in-None-get.ensures.value))

pub returns-in-None : goal.returns-in-None
returns-in-None c =
    among c.self.inside.places.entries c.args.self.now.list c.args.id.now None (ap (λ s. s.list) c.self.view_is)
    (none_by c.args.id.now (standing c.self.inside.places.entries) (sym (c.self.invariant.found c.args.id.now) ∙ sym c.in-None.ensures.value))
