-- The edits of a generated map, and what each comes to.
use Rattle.std.specs.Prelude.{◌≡◌, ℕ, pos, ◌+ℤ◌, List, [], ◌∷◌, ◌++◌, length, map, codes}
use Rattle.ml_ratio.specs.declared.feature.Feature.{Feature}
use Rattle.ml_cone.specs.Choice.{IsLongest}
use Rattle.ml_cone.specs.Shown.{AreShown}
use Rattle.ml_cone.specs.Slots.{ends}
use Rattle.ml_cone.specs.declared.label.Label.{Label}
use Rattle.ml_cone.specs.declared.slot.Slot.{Slot}
use Rattle.ml_cone.specs.declared.view.View.{View}
use Rattle.ml_geojson.specs.Text.{feature_text}
use Rattle.ml_label.specs.Labels.{AreLabelsOf}
use Rattle.ml_watch.specs.declared.change.Change.{Change}
use Rattle.ml_repair.specs.Changes.{AreChanges}
use Rattle.ml_editor.specs.State.{State, IsAllowed, step}
use Rattle.ml_editor.specs.Editing.{IsEditCost}
use Rattle.ml_editor.specs.Faults.{AsksFor, adds}
use Rattle.ml_editor.specs.declared.edit.Edit.{Edit}
use Rattle.ml_editor.specs.declared.edit.Edit.TheVariants.{Remove}
use Rattle.ml_gen.specs.Group.{order}
use Rattle.ml_gen.specs.Thing.{thing_of, id_of, first_town}
use Rattle.ml_gen.specs.declared.counts.Counts.{Counts}
use Rattle.ml_gen.specs.declared.group.Group.{Group}

-- an edit: the first town of a group goes, or comes again
pub data Turn : Type 0 where
  goes : Group → Turn
  comes : Group → Turn

-- all edits: each first town goes, and then each comes again
abbrev pub turns : ℕ → ℕ → List Turn
turns n seed = map goes (order n seed) ++ map comes (order n seed)

-- the group of an edit
abbrev pub group_in : Turn → Group
group_in (goes group) = group
group_in (comes group) = group

-- the edit that is made: the removal of the town's id, or the addition of the town's text
abbrev pub Makes : Turn → Edit → Type 0
Makes (goes group) edit = edit ≡ Remove (id_of group (codes "a"))
Makes (comes group) edit = (f : Feature) × (thing_of f ≡ first_town group) × AsksFor (adds (feature_text f)) edit

-- the view that is asked: 1024 by 1024 pixels about the second town of the group, at scale 30
pub record IsViewOf (group : Group) (view : View) : Type 0 where
  pub cx_is : view.cx ≡ group.x +ℤ pos 400
  pub cy_is : view.cy ≡ group.y +ℤ pos 0
  pub w_is : view.w ≡ 1024
  pub h_is : view.h ≡ 1024
  pub num_is : view.scale.num ≡ 30
  pub den_is : view.scale.den ≡ 1

-- the labels of a map in priority order, and slots whose ends are the longest choice
pub record HaveLabels (s : State) (labels : List Label) (slots : List Slot) : Type 0 where
  pub labels_are : AreLabelsOf s.style s.features labels
  pub one_slot : length slots ≡ length labels
  pub longest : IsLongest labels (ends slots)

-- between two states there are so many changes of labels and their active ranges
pub record MakesChanges (s t : State) (n : ℕ) : Type 0 where
  pub before : List Label
  pub slots_before : List Slot
  pub have_before : HaveLabels s before slots_before
  pub after : List Label
  pub slots_after : List Slot
  pub have_after : HaveLabels t after slots_after
  pub changes : List Change
  pub are_changes : AreChanges before slots_before after slots_after changes
  pub number : n ≡ length changes

-- for an edit that leads from one state to another so many labels have to be evaluated
pub record Costs (edit : Edit) (s t : State) (n : ℕ) : Type 0 where
  pub before : List Label
  pub labels_before : AreLabelsOf s.style s.features before
  pub after : List Label
  pub labels_after : AreLabelsOf t.style t.features after
  pub cost : IsEditCost edit before after n

-- the view shows so many labels of the map
pub record Shows (s : State) (view : View) (n : ℕ) : Type 0 where
  pub labels : List Label
  pub slots : List Slot
  pub have : HaveLabels s labels slots
  pub places : List ℕ
  pub shown : AreShown labels (ends slots) view places
  pub number : n ≡ length places

-- an edit that the features allow leads from one state to the next, and the group's view is asked behind it: this comes of it
pub record IsMade (edit : Edit) (group : Group) (s : State) (counts : Counts) (t : State) : Type 0 where
  pub allowed : IsAllowed s.features edit
  pub state : t ≡ step s edit
  pub changes : MakesChanges s t counts.changes
  pub evaluated : Costs edit s t counts.evaluated
  pub view : View
  pub asked : IsViewOf group view
  pub shown : Shows t view counts.shown

-- a turn leads from one state to the next, and this comes of it
abbrev pub IsTurn : Turn → State → Counts → State → Type 0
IsTurn turn s counts t = (edit : Edit) × Makes turn edit × IsMade edit (group_in turn) s counts t

-- turns one after another, with what comes of each
abbrev pub Run : State → List Turn → List Counts → State → Type 0
Run s [] [] t = t ≡ s
Run s [] (counts ∷ each) t = ⊥
Run s (turn ∷ turns) [] t = ⊥
Run s (turn ∷ turns) (counts ∷ each) t = (mid : State) × IsTurn turn s counts mid × Run mid turns each t
