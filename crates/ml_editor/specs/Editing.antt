-- What contracts see of an editor and of an edit that is ready, and when the one may be carried out on the other.
use Rattle.std.specs.Prelude.{◌≡◌, ℕ, ◌+◌, ◌<◌, ◌≤◌, List, Option, Some, None, MatchOption, Result, Ok, Err, Contains}
use Rattle.ml_cone.specs.declared.label.Label.{Label}
use Rattle.ml_ratio.specs.declared.feature.Feature.{Feature}
use Rattle.ml_style.specs.declared.style.Style.{Style}
use Rattle.ml_label.specs.Labels.{AreLabelsOf}
use Rattle.ml_label.specs.Labelling.{IsLabelling}
use Rattle.ml_label.specs.declared.reason.Reason.{Reason}
use Rattle.ml_watch.specs.declared.change.Change.{Change}
use Rattle.ml_store.specs.Rows.{labels_in, slots_in, HasId, Stored}
use Rattle.ml_store.specs.declared.row.Row.{Row}
use Rattle.ml_repair.specs.Changes.{AreChanges}
use Rattle.ml_repair.specs.Cost.{IsCost}
use Rattle.ml_repair.specs.Edit.{IsEdited}
use Rattle.ml_repair.specs.Settled.{IsSettled}
use Rattle.ml_repair.specs.Plan.{Planned, IsPlanOf, planned_rows, room_of, HasRoom, KeepsRoom}
use Rattle.ml_editor.specs.State.{State, IsState, IsAllowed, step}
use Rattle.ml_editor.specs.declared.edit.Edit.{Edit}
use Rattle.ml_editor.specs.declared.edit.Edit.TheVariants.{Add, Replace, Remove, Restyle}
use Rattle.ml_editor.specs.declared.draft.Draft.{Draft}
use Rattle.ml_editor.specs.declared.work.Work.{Work}
use Rattle.ml_editor.specs.declared.work.Work.TheVariants.{Nothing, Plans, Rebuilds}

-- what contracts see of an editor: its state, its labels with numbers and slots and their room, and how many features may come in without memory
pub record Editing : Type 0 where
  pub state : State
  pub engine : Stored
  pub room : ℕ

-- what always holds of an editor: its state can be reached, its labels are those of its features, and their slots are theirs
pub record IsEditing (e : Editing) : Type 0 where
  pub state : IsState e.state
  pub labels : AreLabelsOf e.state.style e.state.features (labels_in e.engine.rows)
  pub settled : IsSettled e.engine.rows

-- what contracts see of an edit that is ready: the edit, the work on the labels, the label of its feature after it, the revision after it, the changes, and how many labels were evaluated
pub record Prepared : Type 0 where
  pub edit : Edit
  pub work : Work
  pub label : Option Label
  pub rev : ℕ
  pub changes : List Change
  pub evaluated : ℕ

-- the labels after the work
abbrev pub rows_after : Work → List Row → List Row
rows_after (Nothing none) rows = rows
rows_after (Plans plan) rows = planned_rows plan rows
rows_after (Rebuilds engine changes) rows = engine.rows

-- the work is of these labels
abbrev pub IsWorkOn : Work → List Row → Type 0
IsWorkOn (Nothing none) rows = Unit {0}
IsWorkOn (Plans plan) rows = IsPlanOf plan rows
IsWorkOn (Rebuilds engine changes) rows = Unit {0}

-- what the work changes of the labels
abbrev pub changes_of : Work → List Change
changes_of (Nothing none) = none
changes_of (Plans plan) = plan.changes
changes_of (Rebuilds engine changes) = changes

-- how many labels were evaluated for the work; none are where all are made anew
abbrev pub evaluated_of : Work → ℕ
evaluated_of (Nothing none) = 0
evaluated_of (Plans plan) = plan.evaluated
evaluated_of (Rebuilds engine changes) = 0

-- the label that an answer gives, if it gives one
abbrev pub label_given : Result Label Reason → Option Label
label_given (Ok label) = Some label
label_given (Err reason) = None

-- the work makes of these labels those but any with the id, and that which comes, if one does; with its changes and its cost
pub record IsWorkFor (work : Work) (rows : List Row) (id : List ℕ) (come : Option Label) : Type 0 where
  pub of_labels : IsWorkOn work rows
  pub edited : IsEdited id come (labels_in rows) (labels_in (rows_after work rows))
  pub settled : IsSettled (rows_after work rows)
  pub changes : AreChanges (labels_in rows) (slots_in rows) (labels_in (rows_after work rows)) (slots_in (rows_after work rows)) (changes_of work)
  pub cost : IsCost (labels_in rows) (labels_in (rows_after work rows)) id (evaluated_of work)

-- the label of a feature, or none where it has none
abbrev pub IsLabelFor : Style → Feature → Option Label → Type 0
IsLabelFor style f label = (answer : Result Label Reason) × IsLabelling style f answer × (label ≡ label_given answer)

-- what was drawn up for a feature that comes: its label, and the work where that comes in place of that with its id
pub record IsFeatureDraft (style : Style) (rows : List Row) (f : Feature) (draft : Draft) : Type 0 where
  pub label : IsLabelFor style f draft.label
  pub work : IsWorkFor draft.work rows f.id draft.label

-- what was drawn up where the feature with the id goes
pub record IsRemovalDraft (rows : List Row) (id : List ℕ) (draft : Draft) : Type 0 where
  pub label : draft.label ≡ None
  pub work : IsWorkFor draft.work rows id None

-- what was drawn up for a new style: a new engine with the labels under it, and the changes between the two
pub record IsStyleDraft (style : Style) (features : List Feature) (rows : List Row) (draft : Draft) : Type 0 where
  pub engine : Stored
  pub changes : List Change
  pub work : draft.work ≡ Rebuilds engine changes
  pub label : draft.label ≡ None
  pub labels : AreLabelsOf style features (labels_in engine.rows)
  pub settled : IsSettled engine.rows
  pub are_changes : AreChanges (labels_in rows) (slots_in rows) (labels_in engine.rows) (slots_in engine.rows) changes

-- the key is the id of the edit's feature
abbrev pub IsKeyOf : Edit → List ℕ → Type 0
IsKeyOf (Add f) key = key ≡ f.id
IsKeyOf (Replace f) key = key ≡ f.id
IsKeyOf (Remove id) key = key ≡ id
IsKeyOf (Restyle style) key = Unit {0}

-- what was drawn up for an edit of a map with these labels
abbrev pub IsDraft : State → List Row → Edit → Draft → Type 0
IsDraft s rows (Add f) draft = IsFeatureDraft s.style rows f draft
IsDraft s rows (Replace f) draft = IsFeatureDraft s.style rows f draft
IsDraft s rows (Remove id) draft = IsRemovalDraft rows id draft
IsDraft s rows (Restyle style) draft = IsStyleDraft style s.features rows draft

-- the same with its key; a step was spent for each label that was evaluated
pub record IsEditDraft (s : State) (rows : List Row) (edit : Edit) (before after : ℕ) (draft : Draft) : Type 0 where
  pub is : IsDraft s rows edit draft
  pub key : IsKeyOf edit draft.key
  pub spent : after ≡ before + evaluated_of draft.work

-- a draft with a plan, if there is one
abbrev pub IsDrawn : {E : Type 0} → List ℕ → Result Planned E → Option Label → Result Draft E → Type 0
IsDrawn key (Ok plan) label result = result ≡ Ok (record { key = key; work = Plans plan; label = label })
IsDrawn key (Err e) label result = result ≡ Err e

-- what was drawn up where any label with the id goes, and this one comes, if one does; a step was spent for each label that was evaluated
pub record IsDrawnFor (draft : Draft) (rows : List Row) (id : List ℕ) (come : Option Label) (before after : ℕ) : Type 0 where
  pub key : draft.key ≡ id
  pub label : draft.label ≡ come
  pub work : IsWorkFor draft.work rows id come
  pub spent : after ≡ before + evaluated_of draft.work

-- there is room for the work
abbrev pub HasRoomForWork : Work → Stored → Type 0
HasRoomForWork (Nothing none) held = Unit {0}
HasRoomForWork (Plans plan) held = HasRoom (room_of plan) held
HasRoomForWork (Rebuilds engine changes) held = Unit {0}

-- there is room for the feature that comes, if one does
abbrev pub HasRoomForFeature : Edit → ℕ → Type 0
HasRoomForFeature (Add f) room = 0 < room
HasRoomForFeature (Replace f) room = Unit {0}
HasRoomForFeature (Remove id) room = Unit {0}
HasRoomForFeature (Restyle style) room = Unit {0}

-- the id of an edit's feature; a new style has none
abbrev pub id_of : Edit → Option (List ℕ)
id_of (Add f) = Some f.id
id_of (Replace f) = Some f.id
id_of (Remove id) = Some id
id_of (Restyle style) = None

-- the label with the id, or none where no label has it
abbrev pub IsLabelWith : List Label → Option Label → List ℕ → Type 0
IsLabelWith labels label id = MatchOption label (¬ (HasId labels id)) (λ l. Contains labels l × (l.order.id ≡ id))

-- the label that the edit's feature has among these, if it has one; a new style has no feature of its own
abbrev pub IsEditedLabel : Edit → List Label → Option Label → Type 0
IsEditedLabel edit labels label = MatchOption (id_of edit) (label ≡ None) (IsLabelWith labels label)

-- of these labels that of the edit's feature goes, and this one comes, if there is one; the others stay. A new style may change them all
abbrev pub IsEditOf : Edit → Option Label → List Label → List Label → Type 0
IsEditOf edit label before after = MatchOption (id_of edit) (Unit {0}) (λ id. IsEdited id label before after)

-- what an edit between these labels costs; a new style costs nothing
abbrev pub IsEditCost : Edit → List Label → List Label → ℕ → Type 0
IsEditCost edit before after n = MatchOption (id_of edit) (n ≡ 0) (λ id. IsCost before after id n)

-- the edit was made ready for just this state and these labels: the features allow it, its work makes the labels of the
-- features after it, its label is that of its feature among them, and the others stay, its revision is the next one, its
-- changes are those of the labels, and so many labels were evaluated for it as it costs
pub record IsReady (ready : Prepared) (s : State) (rows : List Row) : Type 0 where
  pub allowed : IsAllowed s.features ready.edit
  pub reached : IsState (step s ready.edit)
  pub rev : ready.rev ≡ s.rev + 1
  pub work : IsWorkOn ready.work rows
  pub labels : AreLabelsOf (step s ready.edit).style (step s ready.edit).features (labels_in (rows_after ready.work rows))
  pub settled : IsSettled (rows_after ready.work rows)
  pub label : IsEditedLabel ready.edit (labels_in (rows_after ready.work rows)) ready.label
  pub edited : IsEditOf ready.edit ready.label (labels_in rows) (labels_in (rows_after ready.work rows))
  pub changes : AreChanges (labels_in rows) (slots_in rows) (labels_in (rows_after ready.work rows)) (slots_in (rows_after ready.work rows)) ready.changes
  pub cost : IsEditCost ready.edit (labels_in rows) (labels_in (rows_after ready.work rows)) ready.evaluated

-- the edit with what was drawn up for it, as one that is ready
abbrev pub prepared : Edit → Draft → ℕ → Prepared
prepared edit draft rev = record { edit = edit; work = draft.work; label = draft.label; rev = rev; changes = changes_of draft.work; evaluated = evaluated_of draft.work }

-- there is room for all that the edit brings
pub record HasRoomFor (ready : Prepared) (e : Editing) : Type 0 where
  pub feature : HasRoomForFeature ready.edit e.room
  pub work : HasRoomForWork ready.work e.engine

-- all that contracts see is the same but for the room, which did not shrink
pub record IsSameMap (old new : Editing) : Type 0 where
  pub state : new.state ≡ old.state
  pub rows : new.engine.rows ≡ old.engine.rows
  pub features_room : old.room ≤ new.room
  pub labels_room : KeepsRoom old.engine new.engine
