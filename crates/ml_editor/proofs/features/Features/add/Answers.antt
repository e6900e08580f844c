use Rattle.std.proofs.Common.{ℕ, ◌∙◌, ap, subst, sym, arith, cond, nat_eq, List, ◌++◌, ◌∷◌, [], Some}
use Rattle.std.specs.Map.{lookup}
use Rattle.std.specs.Str.{bytes_eq}
use Rattle.ml_ratio.specs.declared.feature.Feature.{Feature}
use Rattle.indexmap.proofs.CallerLemmas.{insert_entry-new}
use Rattle.ml_editor.specs.State.{HasFeature}
use Rattle.ml_editor.proofs.Numbers.{standing_few, number_free}
use Rattle.ml_editor.proofs.Numbered.{list_behind, are_behind}
use Rattle.ml_editor.proofs.features.Features.add.Goals as goal

pub overflow_add-self-2 : goal.overflow_add-self-2
overflow_add-self-2 c = omega (arith, c.self.invariant.counted, standing_few c.self.inside.places.entries, c.len-held.ensures.len, c.len-held.ensures.small)

pub invariant_of-self : goal.invariant_of-self
invariant_of-self c =
    let list = ap (λ s. s.list) c.self.view_is in
    let is = c.in-Ok-insert.ensures.entries ∙ insert_entry-new nat_eq c.self.inside.places c.self.inside.next
    (Some c.args.feature) (number_free c.self.inside.next c.self.inside.places.entries c.self.invariant.low) in
    let P : List Feature → Type 0 = λ fs. ¬ (HasFeature fs c.args.feature.id) in
    are_behind c.self.inside.places.entries c.self.inside.names.entries c.self.inside.next c.self.inside.taken c.self.invariant
    c.insert-2.new.self.entries c.args.feature is c.insert.new.self.entries
    (subst P (sym list) c.requires.new_id)
    c.in-Ok-insert.ensures.unique
    (λ q. c.in-Ok.ensures.updates.0 q ∙ ap (λ (k : List ℕ). cond (bytes_eq k q) (Some c.self.inside.next) (lookup (bytes_eq q) c.self.inside.names.entries)) c.requires.key)

pub returns : goal.returns
returns c =
    let list = ap (λ s. s.list) c.self.view_is in
    let is = c.in-Ok-insert.ensures.entries ∙ insert_entry-new nat_eq c.self.inside.places c.self.inside.next
    (Some c.args.feature) (number_free c.self.inside.next c.self.inside.places.entries c.self.invariant.low) in
    list_behind c.self.inside.places.entries c.self.inside.names.entries c.self.inside.next c.self.inside.taken c.self.invariant
    c.insert-2.new.self.entries c.args.feature is ∙ ap (λ fs. fs ++ c.args.feature ∷ []) list
