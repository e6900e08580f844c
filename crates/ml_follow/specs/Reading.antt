-- What the parts of the reader answer.
use Rattle.std.specs.Prelude.{◌≡◌, ℕ, pos, ◌≤◌, ◌<◌, List, [], ◌∷◌, ◌++◌, length, map, All, Option, Some, None, MatchBool, MatchOption, IfSome}
use Rattle.std.specs.Option.{option_map}
use Rattle.std.specs.BTreeSet.{BTreeSet, contains_by}
use Rattle.std.specs.Cmp.Lexicographic.{slice_cmp}
use Rattle.std.specs.Ordering.{nat_cmp}
use Rattle.ml_ratio.specs.Limits.{most_labels}
use Rattle.ml_ratio.specs.Number.{whole_number}
use Rattle.ml_cone.specs.Label.{IsLabelList}
use Rattle.ml_cone.specs.Plane.{IsMargin}
use Rattle.ml_cone.specs.Places.{IsPlaceOf, IsNoId}
use Rattle.ml_cone.specs.declared.label.Label.{Label}
use Rattle.ml_cone.specs.declared.slot.Slot.{Slot}
use Rattle.ml_pass.specs.SlotsText.{IsBlockerPlace}
use Rattle.ml_follow.specs.StateLine.{WriteHead, ReadsHead, WritesBlocker, WriteLabel, WriteSlot, WriteRow, ReadsRow}
use Rattle.ml_follow.specs.States.{Unfinished, IsNextRow, IsFaulty, WriteUpTo}
use Rattle.ml_follow.specs.declared.row.Words.{Words}
use Rattle.ml_follow.specs.declared.state.State.{State}
use Rattle.ml_follow.specs.declared.fault.StateFault.{StateFault}
use Rattle.ml_follow.specs.declared.fault.StateFault.TheVariants.{BadState, Memory}
use Rattle.ml_follow.specs.declared.opened.Opened.{Opened}

-- the set has the ids of the labels, and no other text
abbrev pub HasIds : List Label → BTreeSet (List ℕ) → Type 0
HasIds labels taken = (id : List ℕ) → MatchBool (contains_by (slice_cmp nat_cmp id) taken) ((j : ℕ) × IsPlaceOf labels id j) (IsNoId labels id)

-- the state that is being read, without the set of its ids
abbrev pub unfinished_of : Opened → Unfinished
unfinished_of opened = record { count = opened.count; state = opened.state }

-- it has at most as many labels as it is to have, at most 32,768, with a slot each, and their ids are known
pub record IsOpened (opened : Opened) : Type 0 where
  pub low_count : opened.count ≤ most_labels
  pub few : length opened.state.labels ≤ opened.count
  pub one_slot : length opened.state.slots ≡ length opened.state.labels
  pub ids : HasIds opened.state.labels opened.taken

-- a state that is held to be one: labels in priority order with different ids, at most 32,768, with a slot each, whose blocker is the place of one of them
pub record IsGood (state : State) : Type 0 where
  pub ordered : IsLabelList state.labels
  pub few : length state.labels ≤ most_labels
  pub one_slot : length state.slots ≡ length state.labels
  pub placed : All (λ slot. IsBlockerPlace state.labels slot.blocker) state.slots

-- the answer is the head that the words write, or none where they write none
abbrev pub IsHeadAnswer : List ℕ → List ℕ → List ℕ → Option (ℕ × ℕ) → Type 0
IsHeadAnswer word rev_word count_word answer =
    MatchOption answer ((rev count : ℕ) → ¬ (WriteHead word rev_word count_word rev count)) (λ head. WriteHead word rev_word count_word head.0 head.1)

-- no label of a state of this revision and so many labels has come
pub record IsEmpty (rev count : ℕ) (opened : Opened) : Type 0 where
  pub rev_is : opened.state.rev ≡ rev
  pub count_is : opened.count ≡ count
  pub no_labels : opened.state.labels ≡ []
  pub no_slots : opened.state.slots ≡ []
  pub ids : HasIds [] opened.taken

-- what a line begins: the first line of a state, none of whose labels have come
pub record IsBegun (line : List ℕ) (opened : Opened) : Type 0 where
  pub head : ReadsHead line opened.state.rev opened.count
  pub empty : IsEmpty opened.state.rev opened.count opened

-- the answer is what the words begin, or none where they begin no state
abbrev pub IsBegunBy : List ℕ → List ℕ → List ℕ → Option Opened → Type 0
IsBegunBy word rev_word count_word answer =
    MatchOption answer ((rev count : ℕ) → ¬ (WriteHead word rev_word count_word rev count))
    (λ opened. WriteHead word rev_word count_word opened.state.rev opened.count × IsEmpty opened.state.rev opened.count opened)

-- the answer is what the line begins, or none where it begins no state
abbrev pub IsBegunAnswer : List ℕ → Option Opened → Type 0
IsBegunAnswer line answer = MatchOption answer ((rev count : ℕ) → ¬ (ReadsHead line rev count)) (IsBegun line)

-- the answer is the blocker that the word writes, or none where it writes none
abbrev pub IsBlockerAnswer : ℕ → List ℕ → Option (Option ℕ) → Type 0
IsBlockerAnswer count word answer = MatchOption answer ((blocker : Option ℕ) → ¬ (WritesBlocker count word blocker)) (WritesBlocker count word)

-- the answer is the margin that the word writes, or none where it writes none
abbrev pub IsMarginAnswer : List ℕ → Option ℕ → Type 0
IsMarginAnswer word answer =
    MatchOption answer ((margin : ℕ) → IsMargin margin → ¬ (whole_number word ≡ Some (pos margin))) (λ margin. IsMargin margin × (whole_number word ≡ Some (pos margin)))

-- the answer is the slot that the two words write, or none where they write none
abbrev pub IsSlotAnswer : List ℕ → List ℕ → ℕ → Option Slot → Type 0
IsSlotAnswer until blocker count answer = MatchOption answer ((slot : Slot) → ¬ (WriteSlot until blocker count slot)) (WriteSlot until blocker count)

-- the words by what they are
abbrev pub AreWords : List (List ℕ) → Words → Type 0
AreWords all words =
    all ≡ words.id.now ∷ words.x.now ∷ words.y.now ∷ words.min.now ∷ words.max.now ∷ words.margin.now ∷ words.until.now ∷ words.blocker.now ∷ map (λ part. part.now) words.boxes.now

-- the answer is the label that the words write, or none where they write none
abbrev pub IsLabelAnswer : List ℕ → List ℕ → List ℕ → List ℕ → List ℕ → List ℕ → List (List ℕ) → ℕ → Option Label → Type 0
IsLabelAnswer id x y min max margin boxes place answer =
    MatchOption answer ((label : Label) → ¬ (WriteLabel id x y min max margin boxes place label)) (WriteLabel id x y min max margin boxes place)

-- the answer is the label and the slot that the words write, or none where they write none
abbrev pub IsRowWritten : List ℕ → List ℕ → List ℕ → List ℕ → List ℕ → List ℕ → List ℕ → List ℕ → List (List ℕ) → ℕ → ℕ → Option (Label × Slot) → Type 0
IsRowWritten id x y min max margin until blocker boxes place count answer =
    MatchOption answer ((label : Label) (slot : Slot) → ¬ (WriteRow id x y min max margin until blocker boxes place count label slot))
    (λ row. WriteRow id x y min max margin until blocker boxes place count row.0 row.1)

-- the answer is the label and the slot that the line writes, or none where it writes none
abbrev pub IsRowAnswer : List ℕ → ℕ → ℕ → Option (Label × Slot) → Type 0
IsRowAnswer line place count answer =
    MatchOption answer ((label : Label) (slot : Slot) → ¬ (ReadsRow line place count label slot)) (λ row. ReadsRow line place count row.0 row.1)

-- the label and the slot came in behind the others
pub record IsJoined (label : Label) (slot : Slot) (old new : Opened) : Type 0 where
  pub same_count : new.count ≡ old.count
  pub same_rev : new.state.rev ≡ old.state.rev
  pub labels_are : new.state.labels ≡ old.state.labels ++ label ∷ []
  pub slots_are : new.state.slots ≡ old.state.slots ++ slot ∷ []
  pub ids : HasIds new.state.labels new.taken

-- the answer is what stands with the label and the slot, whose id is new, or none where a label has it
abbrev pub IsJoinedAnswer : Label → Slot → Opened → Option Opened → Type 0
IsJoinedAnswer label slot old answer =
    MatchOption answer ((j : ℕ) × IsPlaceOf old.state.labels label.order.id j) (λ new. IsNoId old.state.labels label.order.id × IsJoined label slot old new)

-- the line's label and slot came in behind the others
pub record IsLonger (line : List ℕ) (old new : Opened) : Type 0 where
  pub label : Label
  pub slot : Slot
  pub next : IsNextRow line (unfinished_of old) label slot
  pub joined : IsJoined label slot old new

-- the answer is what stands with the line, or none where it is not that of the next label
abbrev pub IsLongerAnswer : List ℕ → Opened → Option Opened → Type 0
IsLongerAnswer line old answer = MatchOption answer ((label : Label) (slot : Slot) → ¬ (IsNextRow line (unfinished_of old) label slot)) (IsLonger line old)

-- what stands of a state that wants more lines, if there is one
abbrev pub unfinished : Option Opened → Option Unfinished
unfinished last = option_map unfinished_of last

-- a state that wants more lines: what stands of it is as it should be
abbrev pub IsWanting : Opened → Type 0
IsWanting opened = IsOpened opened × (length opened.state.labels < opened.count)

-- what a line makes of what stood: the first line of a state, or one label more
abbrev pub IsGrown : List ℕ → Option Opened → Opened → Type 0
IsGrown line None opened = IsBegun line opened
IsGrown line (Some old) opened = IsLonger line old opened

-- a state that is whole joined the states; one that wants more lines is handed back
abbrev pub IsClosed : Opened → List State → List State → Option Opened → Type 0
IsClosed opened before after next =
    MatchOption next ((length opened.state.labels ≡ opened.count) × (after ≡ before ++ opened.state ∷ []))
    (λ o. (o ≡ opened) × (after ≡ before) × (length opened.state.labels < opened.count))

-- the line came behind those of the states and of what stood
pub record IsTaken (line : List ℕ) (before : List State) (last : Option Opened) (after : List State) (next : Option Opened) : Type 0 where
  pub opened : Opened
  pub grown : IsGrown line last opened
  pub closed : IsClosed opened before after next

-- why a line is not taken, with the number k; out of memory says nothing
abbrev pub IsLineFault : List ℕ → Option Opened → ℕ → StateFault → Type 0
IsLineFault line last k (BadState n) = (n ≡ k) × IsFaulty line (unfinished last)
IsLineFault line last k Memory = Unit {0}

-- what has come of a file: the lines write the states and what stands of one more, which wants more lines
pub record IsReadTo (lines : List (List ℕ)) (states : List State) (last : Option Opened) : Type 0 where
  pub written : WriteUpTo lines states (unfinished last)
  pub good : All IsGood states
  pub wanting : IfSome last IsWanting
