use Rattle.std.proofs.Common.{◌≢◌, ℕ, List, None, refl, sym, subst, ◌∙◌}
use Rattle.std.specs.List.{AllPairs}
use Rattle.ml_cone.specs.declared.label.Label.{Label}
use Rattle.ml_ratio.specs.declared.feature.Feature.{Feature}
use Rattle.ml_store.specs.Rows.{labels_in, HasId}
use Rattle.ml_editor.specs.Editing.{Editing, IsStyleDraft}
use Rattle.ml_editor.specs.State.{HasFeature}
use Rattle.ml_editor.specs.declared.draft.Draft.{Draft}
use Rattle.ml_editor.specs.declared.work.Work.TheVariants.{Rebuilds}
use Rattle.ml_editor.proofs.After.{labels_differ}
use Rattle.ml_editor.proofs.Readiness.{known_id, made_anew}
use Rattle.ml_editor.proofs.editor.Editor.draft_style.Goals as goal

pub build-requires-clause-differ : goal.build-requires-clause-differ
build-requires-clause-differ c =
    let P : List Label → Type 0 = λ ls. AllPairs (λ (one other : Label). one.order.id ≢ other.order.id) ls in
    subst P (sym c.of_vec.ensures) (labels_differ c.in_ok-labels.labels.items c.in_ok-labels.ensures.ok.ordered)

pub changes_between-requires-clause-old : goal.changes_between-requires-clause-old
changes_between-requires-clause-old c =
    let i = c.self.inside in
    let P : List Feature → Type 0 = λ fs. (id : List ℕ) → HasId (labels_in i.engine.rows) id → HasFeature fs id in
    subst P (sym (c.as_slice-2.ensures ∙ c.in_ok-features.ensures)) (known_id i.style i.features.list (labels_in i.engine.rows) c.self.invariant.labels c.self.invariant.settled.in_order)

pub changes_between-requires-clause-new : goal.changes_between-requires-clause-new
changes_between-requires-clause-new c =
    let rows = c.in_ok-engine.engine.rows in
    known_id c.args.style.now c.as_slice-2.result.now (labels_in rows)
    (made_anew c.args.style.now c.as_slice-2.result.now c.as_slice.result.now c.in_ok-labels.labels.items c.of_vec.result rows
    (c.as_slice.ensures ∙ sym c.as_slice-2.ensures) c.in_ok-labels.ensures.ok c.of_vec.ensures c.in_ok-engine.ensures.labels c.in_ok-engine.ensures.settled)
    c.in_ok-engine.ensures.settled.in_order

pub returns-clause-draft : goal.returns-clause-draft
returns-clause-draft c =
    let i = c.self.inside in
    let rows = c.in_ok-engine.engine.rows in
    let draft : Draft = record { key = c.of_string.result; work = Rebuilds c.in_ok-engine.engine c.in_ok-changes.changes; label = None } in
    let P : Editing → Type 0 = λ e. IsStyleDraft c.args.style.now e.state.features e.engine.rows draft in
    subst P c.self.view_is (record {
      engine = c.in_ok-engine.engine;
      changes = c.in_ok-changes.changes;
      work = refl;
      label = refl;
      labels = made_anew c.args.style.now i.features.list c.as_slice.result.now c.in_ok-labels.labels.items c.of_vec.result rows
          (c.as_slice.ensures ∙ c.in_ok-features.ensures) c.in_ok-labels.ensures.ok c.of_vec.ensures c.in_ok-engine.ensures.labels c.in_ok-engine.ensures.settled;
      settled = c.in_ok-engine.ensures.settled;
      are_changes = c.in_ok-changes.ensures;
    })
