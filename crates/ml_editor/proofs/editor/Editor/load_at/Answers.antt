use Rattle.std.proofs.Common.{◌≢◌, List, sym, subst, arith}
use Rattle.std.specs.List.{AllPairs}
use Rattle.ml_cone.specs.declared.label.Label.{Label}
use Rattle.ml_editor.proofs.After.{labels_differ}
use Rattle.ml_editor.proofs.Readiness.{first_editing}
use Rattle.ml_editor.proofs.editor.Editor.load_at.Goals as goal

pub build-requires-clause-differ : goal.build-requires-clause-differ
build-requires-clause-differ c =
    let P : List Label → Type 0 = λ ls. AllPairs (λ (one other : Label). one.order.id ≢ other.order.id) ls in
    subst P (sym c.of_vec.ensures) (labels_differ c.in_ok-labels.labels.items c.in_ok-labels.ensures.ok.ordered)

pub invariant_of-result : goal.invariant_of-result
invariant_of-result c =
    first_editing c.args.style c.args.features c.as_slice.result.now c.in_ok-features.features.list c.in_ok-labels.labels.items
    c.of_vec.result c.in_ok-engine.engine c.in_ok-features.features.room c.args.revision c.requires.low c.requires.differ (omega arith)
    c.as_slice.ensures c.in_ok-features.ensures c.in_ok-labels.ensures.ok c.of_vec.ensures c.in_ok-engine.ensures.labels c.in_ok-engine.ensures.settled

pub returns-clause-holds : goal.returns-clause-holds
returns-clause-holds c = invariant_of-result c
