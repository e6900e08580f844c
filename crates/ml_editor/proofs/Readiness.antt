-- Edits with what was drawn up for them, as edits that are ready.
use Rattle.std.proofs.Common.{◌≡◌, ℕ, ◌+◌, ◌<◌, ◌≤◌, List, length, Contains, Option, Some, None, Result, Ok, Err, ◌⊎◌, inl, inr, refl, sym, subst, arith}
use Rattle.std.specs.Prelude.{◌↔◌, IfSome, MatchOption}
use Rattle.std.proofs.lemmas.List.{length-map}
use Rattle.ml_ratio.specs.declared.feature.Feature.{Feature}
use Rattle.ml_cone.specs.Label.{IsLabelList}
use Rattle.ml_cone.specs.declared.label.Label.{Label}
use Rattle.ml_geojson.specs.Map.{HaveDifferentIds}
use Rattle.ml_label.specs.Labelling.{IsLabelling}
use Rattle.ml_label.specs.Labels.{AreLabelsOf}
use Rattle.ml_label.specs.declared.reason.Reason.{Reason}
use Rattle.ml_style.specs.declared.style.Style.{Style}
use Rattle.ml_store.specs.Rows.{labels_in, slots_in, HasId, Stored}
use Rattle.ml_store.specs.declared.row.Row.{Row}
use Rattle.ml_repair.specs.Changes.{AreChanges}
use Rattle.ml_repair.specs.Cost.{IsCost}
use Rattle.ml_repair.specs.Edit.{IsEdited}
use Rattle.ml_repair.specs.Settled.{IsSettled}
use Rattle.ml_editor.specs.declared.draft.Draft.{Draft}
use Rattle.ml_editor.specs.declared.edit.Edit.{Edit}
use Rattle.ml_editor.specs.declared.edit.Edit.TheVariants.{Add, Replace, Remove, Restyle}
use Rattle.ml_editor.specs.declared.work.Work.{Work}
use Rattle.ml_editor.specs.State.{State, HasFeature, IsAllowed, step, last_rev}
use Rattle.ml_editor.specs.Faults.{IsLast}
use Rattle.ml_editor.specs.Editing.{Editing, Prepared, IsEditing, IsReady, IsWorkOn, IsWorkFor, IsDraft, IsLabelFor, IsFeatureDraft}
use Rattle.ml_editor.specs.Editing.{IsStyleDraft, IsLabelWith, id_of, label_given, prepared, rows_after, changes_of, evaluated_of}
use Rattle.ml_editor.proofs.After.{no_label, after_add, after_replace, after_remove, no_more_labels, fewer_labels, label_of_feature, labels_again}
use Rattle.ml_editor.proofs.States.{reached}

-- a label that comes has the id of its feature
given_own : (style : Style) (f : Feature) (answer : Result Label Reason) → IsLabelling style f answer → IfSome (label_given answer) (λ l. l.order.id ≡ f.id)
given_own style f (Ok label) made = made.ordered.id_is
given_own style f (Err reason) made = tt

-- the label of a feature, if it has one, has the feature's id
pub own_label : (style : Style) (f : Feature) (label : Option Label) → IsLabelFor style f label → IfSome label (λ l. l.order.id ≡ f.id)
own_label style f label made =
    let P : Option Label → Type 0 = λ o. IfSome o (λ l. l.order.id ≡ f.id) in
    subst P (sym made.2) (given_own style f made.0 made.1)

-- there is a number for a label that comes
pub room_for_label : (e : Editing) (id : List ℕ) → IsEditing e → HasFeature e.state.features id ⊎ (length e.state.features < 32768) →
    ¬ (HasId (labels_in e.engine.rows) id) → length e.engine.rows < 32768
room_for_label e id holds (inl known) none =
    omega (
      arith,
      fewer_labels e.state.style e.state.features (labels_in e.engine.rows) (labels_in e.engine.rows) holds.labels holds.settled.in_order id known none,
      holds.state.few,
      length-map e.engine.rows (λ (r : Row). r.label),
    )
room_for_label e id holds (inr few) none =
    omega (
      arith,
      no_more_labels e.state.style e.state.features (labels_in e.engine.rows) (labels_in e.engine.rows) holds.labels holds.settled.in_order,
      few,
      length-map e.engine.rows (λ (r : Row). r.label),
    )

-- the id of a label is that of a feature
pub known_id : (style : Style) (fs : List Feature) (labels : List Label) → AreLabelsOf style fs labels → IsLabelList labels → (id : List ℕ) → HasId labels id → HasFeature fs id
known_id style fs labels of ordered id there = subst (HasFeature fs) there.2 (label_of_feature style fs labels labels of ordered there.0 there.1)

-- an engine that was built of a map's labels has them
pub made_anew : (style : Style) (fs given : List Feature) (labels built : List Label) (rows : List Row) → given ≡ fs → AreLabelsOf style given labels →
    built ≡ labels → ((l : Label) → Contains (labels_in rows) l ↔ Contains built l) → IsSettled rows → AreLabelsOf style fs (labels_in rows)
made_anew style fs given labels built rows same of all there settled =
    let P : List Label → Type 0 = λ ls. (l : Label) → Contains (labels_in rows) l ↔ Contains ls l in
    let Q : List Feature → Type 0 = λ xs. AreLabelsOf style xs (labels_in rows) in
    subst Q same (labels_again style given labels (labels_in rows) of settled.in_order (subst P all there))

-- a state of a map, with an engine that was built of its labels
pub first_editing : (style : Style) (features given kept : List Feature) (labels built : List Label) (engine : Stored) (room rev : ℕ) →
    rev ≤ last_rev → HaveDifferentIds features → length features ≤ 32768 → given ≡ features → kept ≡ features →
    AreLabelsOf style given labels → built ≡ labels → ((l : Label) → Contains (labels_in engine.rows) l ↔ Contains built l) →
    IsSettled engine.rows → IsEditing (record { state = record { style = style; features = kept; rev = rev }; engine = engine; room = room })
first_editing style features given kept labels built engine room rev low differ few same again of all there settled =
    let P : List Feature → Type 0 = λ fs. IsEditing (record { state = record { style = style; features = fs; rev = rev }; engine = engine; room = room }) in
    subst P (sym again) (record {
      state = record { own_ids = differ; few = few; revision = low };
      labels = made_anew style features given labels built engine.rows same of all there settled;
      settled = settled;
    })

-- a ready edit is of the same state and labels
pub ready_is : (ready p : Prepared) (s new : State) (rows others : List Row) → ready ≡ p → new ≡ s → others ≡ rows → IsReady p s rows → IsReady ready new others
ready_is ready p s new rows others a b d h =
    let P : Prepared → Type 0 = λ r. IsReady r new others in
    let Q : State → Type 0 = λ t. IsReady p t others in
    let R : List Row → Type 0 = λ rs. IsReady p s rs in
    subst P (sym a) (subst Q (sym b) (subst R (sym d) h))

-- the label with the id after an edit is that which came
edited_label : (id : List ℕ) (come : Option Label) (before after : List Label) → IsEdited id come before after → IfSome come (λ l. l.order.id ≡ id) → IsLabelWith after come id
edited_label id None before after edited own = λ there. elim ((edited there.0).0 there.1) [
  | inl old ↦ old.1 there.2
  | inr none ↦ no_label there.0 none
]
edited_label id (Some l) before after edited own = ((edited l).1 (inr refl), own)

module _ (e : Editing) (draft : Draft) (holds : IsEditing e) (not_last : ¬ (IsLast e.state)) where
  abbrev style : Style
  style = e.state.style

  abbrev features : List Feature
  features = e.state.features

  abbrev rows : List Row
  rows = e.engine.rows

  abbrev before : List Label
  before = labels_in rows

  abbrev after : List Label
  after = labels_in (rows_after draft.work rows)

  -- an edit of the feature with the id
  by_id : (edit : Edit) (id : List ℕ) → id_of edit ≡ Some id → IsAllowed features edit → IsWorkFor draft.work rows id draft.label →
      IfSome draft.label (λ l. l.order.id ≡ id) → AreLabelsOf (step e.state edit).style (step e.state edit).features after →
      IsReady (prepared edit draft (e.state.rev + 1)) e.state rows
  by_id edit id is allowed work own labels = record {
    allowed = allowed;
    reached = reached e.state edit holds.state allowed not_last;
    rev = refl;
    work = work.of_labels;
    labels = labels;
    settled = work.settled;
    label = subst (λ o. MatchOption o (draft.label ≡ None) (IsLabelWith after draft.label)) (sym is) (edited_label id draft.label before after work.edited own);
    edited = subst (λ o. MatchOption o (Unit {0}) (λ i. IsEdited i draft.label before after)) (sym is) work.edited;
    changes = work.changes;
    cost = subst (λ o. MatchOption o (evaluated_of draft.work ≡ 0) (λ i. IsCost before after i (evaluated_of draft.work))) (sym is) work.cost;
  }

  -- what comes for a feature is the label that its answer gives
  edited_by : (f : Feature) → (drawn : IsFeatureDraft style rows f draft) → IsEdited f.id (label_given drawn.label.0) before after
  edited_by f drawn = let P : Option Label → Type 0 = λ o. IsEdited f.id o before after in subst P drawn.label.2 drawn.work.edited

  -- a new style
  of_style : (new : Style) → IsStyleDraft new features rows draft → IsReady (prepared (Restyle new) draft (e.state.rev + 1)) e.state rows
  of_style new drawn =
      let P : Work → Type 0 = λ w. IsWorkOn w rows × AreLabelsOf new features (labels_in (rows_after w rows)) × IsSettled (rows_after w rows)
      × AreChanges before (slots_in rows) (labels_in (rows_after w rows)) (slots_in (rows_after w rows)) (changes_of w) × (evaluated_of w ≡ 0) in
      let all : P draft.work = subst P (sym drawn.work) (tt, drawn.labels, drawn.settled, drawn.are_changes, refl) in
      record {
        allowed = tt;
        reached = reached e.state (Restyle new) holds.state tt not_last;
        rev = refl;
        work = all.0;
        labels = all.1;
        settled = all.2;
        label = drawn.label;
        edited = tt;
        changes = all.3;
        cost = all.4;
      }

  -- what was drawn up for an edit that the features allow makes it ready
  pub ready_of : (edit : Edit) → IsAllowed features edit → IsDraft e.state rows edit draft → IsReady (prepared edit draft (e.state.rev + 1)) e.state rows
  ready_of (Add f) allowed drawn =
      let ids = (reached e.state (Add f) holds.state allowed not_last).own_ids in
      by_id (Add f) f.id refl allowed drawn.work (own_label style f draft.label drawn.label)
      (after_add style features before after holds.labels drawn.work.settled.in_order f drawn.label.0 drawn.label.1 (edited_by f drawn) allowed.0 ids)
  ready_of (Replace f) allowed drawn =
      let ids = (reached e.state (Replace f) holds.state allowed not_last).own_ids in
      by_id (Replace f) f.id refl allowed drawn.work (own_label style f draft.label drawn.label)
      (after_replace style features before after holds.labels drawn.work.settled.in_order f drawn.label.0 drawn.label.1 (edited_by f drawn) allowed ids)
  ready_of (Remove id) allowed drawn =
      let ids = (reached e.state (Remove id) holds.state allowed not_last).own_ids in
      let P : Option Label → Type 0 = λ o. IsWorkFor draft.work rows id o in
      let Q : Option Label → Type 0 = λ o. IfSome o (λ l. l.order.id ≡ id) in
      by_id (Remove id) id refl allowed (subst P (sym drawn.label) drawn.work) (subst Q (sym drawn.label) tt)
      (after_remove style features before after holds.labels drawn.work.settled.in_order id drawn.work.edited ids)
  ready_of (Restyle new) allowed drawn = of_style new drawn
