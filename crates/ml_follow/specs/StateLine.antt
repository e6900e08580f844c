-- The lines of a state.
use Rattle.std.specs.Prelude.{◌≡◌, ℕ, ◌-◌, ◌^◌, ◌<◌, ◌≤◌, pos, List, [], ◌∷◌, length, replicate, Option, Some, None, IsUtf8, codes}
use Rattle.std.specs.List.{AllZip}
use Rattle.ml_ratio.specs.Limits.{most_labels}
use Rattle.ml_ratio.specs.Lines.{parts}
use Rattle.ml_ratio.specs.Number.{number_up_to, whole_number}
use Rattle.ml_ratio.specs.Ratio.{ReadsRatio}
use Rattle.ml_cone.specs.declared.label.Label.{Label}
use Rattle.ml_cone.specs.declared.slot.Slot.{Slot}
use Rattle.ml_watch.specs.Spelling.{Spells}
use Rattle.ml_pass.specs.Row.{ReadsBox}

-- the words are `state`, a revision and a number of labels: 1 to 16 digits up to 2^53, and 1 to 5 digits up to 32,768
pub record WriteHead (word rev_word count_word : List ℕ) (rev count : ℕ) : Type 0 where
  pub word_is : word ≡ codes "state"
  pub rev_is : number_up_to 16 rev_word ≡ Some rev
  pub count_is : number_up_to 5 count_word ≡ Some count
  pub low_rev : rev ≤ 2 ^ 53
  pub low_count : count ≤ most_labels

-- the line begins a state of this revision with so many labels
pub record ReadsHead (line : List ℕ) (rev count : ℕ) : Type 0 where
  pub is_text : IsUtf8 line
  pub word : List ℕ
  pub rev_word : List ℕ
  pub count_word : List ℕ
  pub words : parts 32 line ≡ word ∷ rev_word ∷ count_word ∷ []
  pub write : WriteHead word rev_word count_word rev count

-- the word is `-` for no blocker, and else 1 to 5 digits of the blocker's place, which is below the number of labels
abbrev pub WritesBlocker : ℕ → List ℕ → Option ℕ → Type 0
WritesBlocker count word None = word ≡ codes "-"
WritesBlocker count word (Some place) = (number_up_to 5 word ≡ Some place) × (place < count)

-- the words write the label at `place`: its class is the place, its rank 0, its first piece is its id, and the others are empty
pub record WriteLabel (id x y min max margin : List ℕ) (boxes : List (List ℕ)) (place : ℕ) (label : Label) : Type 0 where
  pub class_is : label.order.class ≡ place
  pub rank_is : label.order.rank ≡ 0
  pub id_is : Spells id label.order.id
  pub x_is : whole_number x ≡ Some label.x
  pub y_is : whole_number y ≡ Some label.y
  pub min_is : ReadsRatio min (Some label.min)
  pub max_is : ReadsRatio max (Some label.max)
  pub margin_is : whole_number margin ≡ Some (pos label.margin)
  pub boxes_are : AllZip ReadsBox boxes label.boxes
  pub pieces_are : label.pieces ≡ label.order.id ∷ replicate (length boxes - 1) []

-- the words write the slot of one of `count` labels
pub record WriteSlot (until blocker : List ℕ) (count : ℕ) (slot : Slot) : Type 0 where
  pub until_is : ReadsRatio until (Some slot.until)
  pub blocker_is : WritesBlocker count blocker slot.blocker

-- the words write the label at `place` of `count`, and its slot
pub record WriteRow (id x y min max margin until blocker : List ℕ) (boxes : List (List ℕ)) (place count : ℕ) (label : Label) (slot : Slot) : Type 0 where
  pub its_label : WriteLabel id x y min max margin boxes place label
  pub its_slot : WriteSlot until blocker count slot

-- the line is that of the label at `place` of `count`, and of its slot: their words with one space between
pub record ReadsRow (line : List ℕ) (place count : ℕ) (label : Label) (slot : Slot) : Type 0 where
  pub is_text : IsUtf8 line
  pub id : List ℕ
  pub x : List ℕ
  pub y : List ℕ
  pub min : List ℕ
  pub max : List ℕ
  pub margin : List ℕ
  pub until : List ℕ
  pub blocker : List ℕ
  pub boxes : List (List ℕ)
  pub words : parts 32 line ≡ id ∷ x ∷ y ∷ min ∷ max ∷ margin ∷ until ∷ blocker ∷ boxes
  pub write : WriteRow id x y min max margin until blocker boxes place count label slot
