use Rattle.std.proofs.Common.{List, ◌++◌, ◌∷◌, ap, sym, ◌∙◌}
use Rattle.std.specs.Vec.Iter.{into_iter_items}
use Rattle.ml_ratio.specs.declared.feature.Feature.{Feature}
use Rattle.ml_editor.proofs.States.{behind_differs_in}
use Rattle.ml_editor.proofs.features.Features.of.Goals as goal

pub add-requires-clause-new_id : goal.add-requires-clause-new_id
add-requires-clause-new_id c =
    let f = c.in-Some.feature in
    let rest : List Feature = into_iter_items c.next.new.self in
    behind_differs_in c.reserve.new.self.list f rest c.args.features
    (ap (λ (l : List Feature). l ++ f ∷ rest) c.reserve.ensures.same ∙ ap (λ (items : List Feature). c.loop-feature.kept.list ++ items) (sym c.in-Some.ensures.steps.0) ∙ c.loop-feature.invariant)
    c.requires
