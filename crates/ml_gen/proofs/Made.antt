-- What comes of one edit.
use Rattle.std.proofs.Common.{◌≡◌, ℕ, ◌<◌, List, length, None, codes, refl, sym, ap, subst, ◌∙◌, arith}
use Rattle.std.proofs.lemmas.List.{length-map}
use Rattle.ml_ratio.specs.Limits.{most_labels}
use Rattle.ml_ratio.specs.declared.feature.Feature.{Feature}
use Rattle.ml_cone.specs.declared.view.View.{View}
use Rattle.ml_geojson.specs.Map.{IsFeature}
use Rattle.ml_geojson.specs.Text.{feature_text}
use Rattle.ml_store.specs.Rows.{labels_in, slots_in, number_at}
use Rattle.ml_label.specs.Labels.{AreLabelsOf}
use Rattle.ml_repair.specs.Changes.{AreChanges}
use Rattle.ml_repair.specs.Shown.{AreShownNumbers}
use Rattle.ml_editor.specs.State.{State, HasFeature, step, last_rev}
use Rattle.ml_editor.specs.Editing.{Editing, IsEditing, Prepared, IsReady, rows_after}
use Rattle.ml_editor.specs.Faults.{AsksFor, IsGranted, adds, removes}
use Rattle.ml_editor.specs.declared.edit.Edit.{Edit}
use Rattle.ml_editor.specs.declared.edit.Edit.TheVariants.{Add, Remove}
use Rattle.ml_gen.specs.Thing.{Thing, thing_of, id_of, first_town}
use Rattle.ml_gen.specs.Turn.{goes, comes, HaveLabels, IsViewOf, Shows, IsMade, IsTurn}
use Rattle.ml_gen.specs.declared.counts.Counts.{Counts}
use Rattle.ml_gen.specs.declared.group.Group.{Group}

-- an editor holds the labels of its map, and slots whose ends are their longest choice
pub editing_labels : (e : Editing) → IsEditing e → HaveLabels e.state (labels_in e.engine.rows) (slots_in e.engine.rows)
editing_labels e h = record { labels_are = h.labels; one_slot = h.settled.slots.one_slot; longest = h.settled.slots.longest }

-- an edit that was ready and was carried out
pub made : (ready : Prepared) (group : Group) (old new : Editing) (shown changes evaluated : ℕ) → IsEditing old → IsEditing new →
    IsReady ready old.state old.engine.rows → new.state ≡ step old.state ready.edit →
    AreChanges (labels_in old.engine.rows) (slots_in old.engine.rows) (labels_in new.engine.rows) (slots_in new.engine.rows) ready.changes →
    changes ≡ length ready.changes → evaluated ≡ ready.evaluated → (view : View) × IsViewOf group view × Shows new.state view shown →
    IsMade ready.edit group old.state (record { shown = shown; changes = changes; evaluated = evaluated }) new.state
made ready group old new shown changes evaluated before after ready_is state are number cost look = record {
  allowed = ready_is.allowed;
  state = state;
  changes = record {
    before = labels_in old.engine.rows;
    slots_before = slots_in old.engine.rows;
    have_before = editing_labels old before;
    after = labels_in new.engine.rows;
    slots_after = slots_in new.engine.rows;
    have_after = editing_labels new after;
    changes = ready.changes;
    are_changes = are;
    number = number;
  };
  evaluated = record {
    before = labels_in old.engine.rows;
    labels_before = before.labels;
    after = labels_in (rows_after ready.work old.engine.rows);
    labels_after = subst (λ (t : State). AreLabelsOf t.style t.features (labels_in (rows_after ready.work old.engine.rows))) (sym state) ready_is.labels;
    cost = rw cost ready_is.cost;
  };
  view = look.0;
  asked = look.1;
  shown = look.2;
}

below_last : (n m : ℕ) → n < m → ¬ (n ≡ m)
below_last n m low same = omega (arith, low, same)

-- nothing refuses these edits
pub removal_granted : (s : State) (id : List ℕ) → HasFeature s.features id → s.rev < last_rev → IsGranted s None (removes id) (Remove id)
removal_granted s id there early = record { present = tt; asked = refl; allowed = there; not_last = below_last s.rev last_rev early }

-- the text of a feature whose id is new is granted, where there is room for a feature and a revision more
pub addition_granted : (s : State) (body : List ℕ) (f : Feature) →
    IsFeature body f → ¬ (HasFeature s.features f.id) → length s.features < most_labels → s.rev < last_rev → IsGranted s None (adds body) (Add f)
addition_granted s body f is gone few early = record { present = tt; asked = (f, refl, is); allowed = (gone, few); not_last = below_last s.rev last_rev early }

-- so many labels are shown as there are numbers of shown labels
pub shown_of : (e : Editing) (view : View) (numbers : List ℕ) (n : ℕ) → IsEditing e → AreShownNumbers e.engine.rows view numbers → n ≡ length numbers → Shows e.state view n
shown_of e view numbers n h are long = record {
  labels = labels_in e.engine.rows;
  slots = slots_in e.engine.rows;
  have = editing_labels e h;
  places = are.places;
  shown = are.shown;
  number = long ∙ ap (λ (ns : List ℕ). length ns) are.numbers_are ∙ length-map are.places (number_at e.engine.rows);
}

-- the removal that was made ready is that of the town, from the state before
pub gone_out : (group : Group) (s mid t : State) (edit : Edit) (id : List ℕ) (counts : Counts) → mid ≡ s → edit ≡ Remove id → id ≡ id_of group (codes "a") →
    IsMade edit group mid counts t → IsTurn (goes group) s counts t × (t ≡ step s (Remove (id_of group (codes "a"))))
gone_out group s mid t edit id counts before is_made same done =
    let is : edit ≡ Remove (id_of group (codes "a")) = is_made ∙ ap Remove same in
    let from : IsMade edit group s counts t = subst (λ (u : State). IsMade edit group u counts t) before done in
    ((edit, is, from), from.state ∙ ap (step s) is)

-- a text is one feature only
abbrev pub OneFeature : Type 0
OneFeature = (bytes : List ℕ) (one other : Feature) → IsFeature bytes one → IsFeature bytes other → one ≡ other

-- the addition that was made ready is that of the town, to the state before
pub come_back : (group : Group) (s mid t : State) (edit : Edit) (body : List ℕ) (town : Feature) (counts : Counts) →
    OneFeature → mid ≡ s → AsksFor (adds body) edit → body ≡ feature_text town → IsFeature body town →
    thing_of town ≡ first_town group → IsMade edit group mid counts t →
    IsTurn (comes group) s counts t × ((f : Feature) × (f.id ≡ id_of group (codes "a")) × (t ≡ step s (Add f)))
come_back group s mid t edit body town counts one before asked text is thing done =
    let from : IsMade edit group s counts t = subst (λ (u : State). IsMade edit group u counts t) before done in
    let id : asked.0.id ≡ id_of group (codes "a") = ap (λ (f : Feature). f.id) (one body asked.0 town asked.2 is) ∙ ap (λ (u : Thing). u.id) thing in
    let makes : AsksFor (adds (feature_text town)) edit = subst (λ (bytes : List ℕ). AsksFor (adds bytes) edit) text asked in
    ((edit, (town, thing, makes), from), (asked.0, id, from.state ∙ ap (step s) asked.1))
