use Rattle.std.proofs.Common.{◌∙◌, ◌<◌, ap, subst, sym, arith, filter, not}
use Rattle.std.specs.Prelude.{All}
use Rattle.std.specs.Str.{bytes_eq}
use Rattle.ml_ratio.specs.declared.feature.Feature.{Feature}
use Rattle.ml_editor.specs.Features.{standing}
use Rattle.ml_editor.proofs.Numbered.{some_goes, list_without, are_without, list_same}
use Rattle.ml_editor.proofs.features.Features.remove.Goals as goal

pub invariant_of-self : goal.invariant_of-self
invariant_of-self c =
    let has = sym (c.self.invariant.found c.args.id.now) ∙ sym c.in-Some.ensures.value in
    let some = some_goes c.self.inside.places.entries c.self.inside.names.entries c.self.inside.next c.self.inside.taken c.self.invariant c.args.id.now c.in-Some.number has in
    are_without c.self.inside.places.entries c.self.inside.names.entries c.self.inside.next c.self.inside.taken c.self.invariant c.args.id.now c.in-Some.number has
    c.close_few.new.places.entries (c.close_few.ensures.standing ∙ ap standing c.set_place.ensures.entries)
    c.swap_remove.new.self.entries _
    c.close_few.ensures.differ
    (c.close_few.ensures.low c.self.inside.next (subst (All (λ n. n < c.self.inside.next)) (sym c.set_place.ensures.keys) c.self.invariant.low))
    (omega (arith, some))
    c.in-Some.ensures.updates.0

pub returns-in-Some-clause-list : goal.returns-in-Some-clause-list
returns-in-Some-clause-list c =
    let list = ap (λ s. s.list) c.self.view_is in
    let has = sym (c.self.invariant.found c.args.id.now) ∙ sym c.in-Some.ensures.value in
    list_without c.self.inside.places.entries c.self.inside.names.entries c.self.inside.next c.self.inside.taken c.self.invariant c.args.id.now c.in-Some.number has
    c.close_few.new.places.entries (c.close_few.ensures.standing ∙ ap standing c.set_place.ensures.entries)
    ∙ ap (filter (λ (f : Feature). not (bytes_eq f.id c.args.id.now))) list

pub returns-in-None-clause-list : goal.returns-in-None-clause-list
returns-in-None-clause-list c =
    let list = ap (λ s. s.list) c.self.view_is in
    let none = sym (c.self.invariant.found c.args.id.now) ∙ sym c.in-None.ensures.value in
    list_same c.self.inside.places.entries c.self.inside.names.entries c.self.inside.next c.self.inside.taken c.self.invariant c.args.id.now none
    ∙ ap (filter (λ (f : Feature). not (bytes_eq f.id c.args.id.now))) list
