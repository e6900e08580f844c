use Rattle.std.specs.Prelude.{ℕ, ◌≡◌, List, [], ◌∷◌, Option, Some, MatchOption, IsUtf8, codes}
use Rattle.ml_ratio.specs.Lines.{parts}
use Rattle.ml_ratio.specs.Ratio.{ReadsRatio}
use Rattle.ml_cone.specs.declared.label.Label.{Label}
use Rattle.ml_cone.specs.declared.slot.Slot.{Slot}
use Rattle.ml_cone.specs.Places.{IsPlaceOf}

-- the word is `-` for no blocker, and else the id of the label that is the blocker
abbrev pub WritesBlocker : List Label → List ℕ → Option ℕ → Type 0
WritesBlocker labels word blocker = MatchOption blocker (word ≡ codes "-") (IsPlaceOf labels word)

-- an id, an end and a blocker write the slot of the label at i
pub record WriteSlot (labels : List Label) (i : ℕ) (id until blocker : List ℕ) (slot : Slot) : Type 0 where
  pub its_label : IsPlaceOf labels id i
  pub its_end : ReadsRatio until (Some slot.until)
  pub its_blocker : WritesBlocker labels blocker slot.blocker

-- the line is a text of three words, with one space between, that write the slot of the label at i
pub record IsSlotLine (labels : List Label) (i : ℕ) (line : List ℕ) (slot : Slot) : Type 0 where
  pub is_text : IsUtf8 line
  pub id : List ℕ
  pub until : List ℕ
  pub blocker : List ℕ
  pub words : parts 32 line ≡ id ∷ until ∷ blocker ∷ []
  pub write : WriteSlot labels i id until blocker slot

-- the answer is the blocker that a word writes, or none where it writes no blocker
abbrev pub IsBlockerAnswer : List Label → List ℕ → Option (Option ℕ) → Type 0
IsBlockerAnswer labels word answer = MatchOption answer ((blocker : Option ℕ) → ¬ (WritesBlocker labels word blocker)) (WritesBlocker labels word)

-- the answer is the slot of the label at i that three words write, or none where they write none
abbrev pub IsWordsAnswer : List Label → ℕ → List ℕ → List ℕ → List ℕ → Option Slot → Type 0
IsWordsAnswer labels i id until blocker answer =
    MatchOption answer ((slot : Slot) → ¬ (WriteSlot labels i id until blocker slot)) (WriteSlot labels i id until blocker)

-- the answer is the slot of the label at i that a line writes, or none where it writes none
abbrev pub IsLineAnswer : List Label → ℕ → List ℕ → Option Slot → Type 0
IsLineAnswer labels i line answer = MatchOption answer ((slot : Slot) → ¬ (IsSlotLine labels i line slot)) (IsSlotLine labels i line)
