-- The work that a plan makes, and what is drawn up with it.
use Rattle.std.proofs.Common.{◌≡◌, ℕ, List, [], Option, None, Result, Ok, Err, sym, subst}
use Rattle.std.specs.Prelude.{IfOk}
use Rattle.ml_cone.specs.declared.label.Label.{Label}
use Rattle.ml_ratio.specs.declared.feature.Feature.{Feature}
use Rattle.ml_store.specs.Rows.{labels_in, slots_in, HasId}
use Rattle.ml_store.specs.declared.row.Row.{Row}
use Rattle.ml_watch.specs.declared.change.Change.{Change}
use Rattle.ml_repair.specs.Changes.{AreChanges}
use Rattle.ml_repair.specs.Cost.{IsCost}
use Rattle.ml_repair.specs.Edit.{IsEdited}
use Rattle.ml_repair.specs.Plan.{Planned, IsPlanFor, planned_rows}
use Rattle.ml_repair.specs.Settled.{IsSettled}
use Rattle.ml_editor.specs.State.{State}
use Rattle.ml_editor.specs.declared.draft.Draft.{Draft}
use Rattle.ml_editor.specs.declared.edit.Edit.TheVariants.{Add, Replace, Remove}
use Rattle.ml_editor.specs.declared.work.Work.TheVariants.{Nothing, Plans}
use Rattle.ml_editor.specs.Editing.{IsDrawn, IsDrawnFor, IsEditDraft, IsFeatureDraft, IsLabelFor, IsWorkFor}
use Rattle.ml_editor.proofs.Unchanged.{not_edited, no_cost, no_changes}

-- a plan for the label with an id is the work for the id
planned_work : (plan : Planned) (rows : List Row) (id own : List ℕ) (come : Option Label) (before after : ℕ) →
    own ≡ id → IsPlanFor plan rows own come before after → IsWorkFor (Plans plan) rows id come
planned_work plan rows id own come before after same made =
    let P : List ℕ → Type 0 = λ i. IsEdited i come (labels_in rows) (labels_in (planned_rows plan rows)) in
    let Q : List ℕ → Type 0 = λ i. IsCost (labels_in rows) (labels_in (planned_rows plan rows)) i plan.evaluated in
    record { of_labels = made.of_state; edited = subst P same made.labels; settled = made.of_state.settled; changes = made.changes; cost = subst Q same made.cost }

-- what is drawn up with a plan, if there is one
module _ {E : Type 0} (rows : List Row) (id own key : List ℕ) (given come copy : Option Label) (before after : ℕ)
    (is : given ≡ come) (same : own ≡ id) (is_key : key ≡ id) (is_copy : copy ≡ given) where
  -- a draft with a plan for the label with the id, with the id as its key and a copy of the label, is what is drawn up for the id
  pub drawn_so : (plan : Result Planned E) (result : Result Draft E) →
      IsDrawn key plan copy result → IfOk plan (λ p. IsPlanFor p rows own come before after) → IfOk result (λ draft. IsDrawnFor draft rows id given before after)
  drawn_so (Ok plan) result drawn made =
      let Q : Result Draft E → Type 0 = λ r. IfOk r (λ draft. IsDrawnFor draft rows id given before after) in
      let work = subst (IsWorkFor (Plans plan) rows id) (sym is) (planned_work plan rows id own come before after same made) in
      subst Q (sym drawn) (record { key = is_key; label = is_copy; work = work; spent = made.spent })
  drawn_so (Err e) result drawn made =
      let Q : Result Draft E → Type 0 = λ r. IfOk r (λ draft. IsDrawnFor draft rows id given before after) in
      subst Q (sym drawn) tt

-- where no label has the id, and none comes, there is nothing to do
pub no_work : (rows : List Row) (id : List ℕ) (changes : List Change) (given : Option Label) →
    changes ≡ [] → given ≡ None → ¬ (HasId (labels_in rows) id) → IsSettled rows → IsWorkFor (Nothing changes) rows id given
no_work rows id changes given empty is absent settled =
    let P : Option Label → Type 0 = λ o. IsWorkFor (Nothing changes) rows id o in
    let Q : List Change → Type 0 = λ cs. AreChanges (labels_in rows) (slots_in rows) (labels_in rows) (slots_in rows) cs in
    subst P (sym is) (record {
      of_labels = tt;
      edited = not_edited id (labels_in rows) absent;
      settled = settled;
      changes = subst Q (sym empty) (no_changes (labels_in rows) (slots_in rows) settled.in_order);
      cost = no_cost id (labels_in rows) absent;
    })

-- what was drawn up for the id of an edit's feature was drawn up for the edit
module _ (s : State) (rows : List Row) (before after : ℕ) where
  of_feature : (f : Feature) (come : Option Label) (draft : Draft) → IsLabelFor s.style f come → IsDrawnFor draft rows f.id come before after → IsFeatureDraft s.style rows f draft
  of_feature f come draft made drawn = record { label = subst (IsLabelFor s.style f) (sym drawn.label) made; work = subst (IsWorkFor draft.work rows f.id) (sym drawn.label) drawn.work }

  -- what was drawn up for a feature's id and label was drawn up for the edit that adds the feature
  pub drawn_add : (f : Feature) (come : Option Label) → IsLabelFor s.style f come → (draft : Draft) → IsDrawnFor draft rows f.id come before after → IsEditDraft s rows (Add f) before after draft
  drawn_add f come made draft drawn = record { is = of_feature f come draft made drawn; key = drawn.key; spent = drawn.spent }

  -- and it was drawn up for the edit that puts the feature in the place of that with its id
  pub drawn_replace : (f : Feature) (come : Option Label) → IsLabelFor s.style f come →
      (draft : Draft) → IsDrawnFor draft rows f.id come before after → IsEditDraft s rows (Replace f) before after draft
  drawn_replace f come made draft drawn = record { is = of_feature f come draft made drawn; key = drawn.key; spent = drawn.spent }

  -- what was drawn up for an id and no label was drawn up for the edit that removes the feature with the id
  pub drawn_remove : (id : List ℕ) (draft : Draft) → IsDrawnFor draft rows id None before after → IsEditDraft s rows (Remove id) before after draft
  drawn_remove id draft drawn = record { is = record { label = drawn.label; work = drawn.work }; key = drawn.key; spent = drawn.spent }
