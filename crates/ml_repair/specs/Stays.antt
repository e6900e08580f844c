-- Changes of labels that stay.
use Rattle.std.specs.Prelude.{◌≡◌, ◌≢◌, ◌⊎◌, ◌++◌, List, [], ◌∷◌, Option, Some, None, MatchOption, Contains}
use Rattle.ml_cone.specs.declared.slot.Slot.{Slot}
use Rattle.ml_watch.specs.declared.change.Change.{Change}
use Rattle.ml_store.specs.declared.row.Row.{Row}
use Rattle.ml_repair.specs.Plan.{slot_for}
use Rattle.ml_store.specs.declared.moved.Moved.{Moved}

-- the change of a label that gets a slot
abbrev pub stay_change : Row → Slot → Change
stay_change r slot = record {
  id = r.label.order.id;
  before = Some (record { min = r.label.min; until = r.slot.until });
  after = Some (record { min = r.label.min; until = slot.until });
}

-- the change is that of one of the rows, which has another end
pub record IsStayChange (rows : List Row) (moved : List Moved) (change : Change) : Type 0 where
  pub row : Row
  pub there : Contains rows row
  pub change_is : change ≡ stay_change row (slot_for row.number row.slot moved)
  pub differ : row.slot.until ≢ (slot_for row.number row.slot moved).until

-- the change of a label came in, if its slot has another end
abbrev pub IsPushedFor : Row → Slot → List Change → List Change → Type 0
IsPushedFor row slot before after = ((row.slot.until ≡ slot.until) × (after ≡ before)) ⊎ ((row.slot.until ≢ slot.until) × (after ≡ before ++ stay_change row slot ∷ []))

-- a change came in, if one was given
abbrev pub IsJoinedBy : Option Change → List Change → List Change → Type 0
IsJoinedBy None before after = after ≡ before
IsJoinedBy (Some change) before after = after ≡ before ++ change ∷ []

-- the change of a row that another one comes for, or none where the labels and their ends are the same
abbrev pub IsChangeBetween : Row → Row → Option Change → Type 0
IsChangeBetween old new change =
    MatchOption change ((old.label ≡ new.label) × (old.slot.until ≡ new.slot.until))
    (λ c. ¬ ((old.label ≡ new.label) × (old.slot.until ≡ new.slot.until))
    × (c ≡ record { id = new.label.order.id; before = Some (record { min = old.label.min; until = old.slot.until }); after = Some (record { min = new.label.min; until = new.slot.until }) }))
