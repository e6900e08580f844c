use Rattle.std.specs.Prelude.{◌≡◌, ◌≢◌, ℕ, ◌-◌, ◌<◌, ◌≤◌, List, [], ◌∷◌, length, replicate, Option, Some, MatchOption, All, IsUtf8}
use Rattle.std.specs.List.{AllZip}
use denote.Ref.{Bor}
use Rattle.ml_ratio.specs.Lines.{parts}
use Rattle.ml_ratio.specs.Number.{whole_number}
use Rattle.ml_ratio.specs.Ratio.{ReadsRatio}
use Rattle.ml_cone.specs.Plane.{IsBox}
use Rattle.ml_cone.specs.declared.label.BoxPx.{BoxPx}
use Rattle.ml_cone.specs.declared.label.Label.{Label}

-- an id: 1 to 64 printing ASCII characters, and not a minus alone
pub record IsId (id : List ℕ) : Type 0 where
  pub some : 0 < length id
  pub short : length id ≤ 64
  pub printing : All (λ byte. (33 ≤ byte) × (byte ≤ 126)) id
  pub not_minus : id ≢ 45 ∷ []

-- four whole numbers, left, bottom, right and top, that make the box
pub record WritesBox (l b r t : List ℕ) (p : BoxPx) : Type 0 where
  pub left : whole_number l ≡ Some p.l
  pub bottom : whole_number b ≡ Some p.b
  pub right : whole_number r ≡ Some p.r
  pub top : whole_number t ≡ Some p.t
  pub good : IsBox p.l p.b p.r p.t

-- the text writes the box: its four numbers with commas between
pub record ReadsBox (text : List ℕ) (p : BoxPx) : Type 0 where
  pub l : List ℕ
  pub b : List ℕ
  pub r : List ℕ
  pub t : List ℕ
  pub split : parts 44 text ≡ l ∷ b ∷ r ∷ t ∷ []
  pub numbers : WritesBox l b r t p

-- the fields write the label of class `place`, rank 0 and margin 0; its first piece is the id, the others are empty
pub record WritesLabel (id x y min max : List ℕ) (boxes : List (List ℕ)) (place : ℕ) (label : Label) : Type 0 where
  pub good_id : IsId id
  pub class_is : label.order.class ≡ place
  pub rank_is : label.order.rank ≡ 0
  pub id_is : label.order.id ≡ id
  pub x_is : whole_number x ≡ Some label.x
  pub y_is : whole_number y ≡ Some label.y
  pub min_is : ReadsRatio min (Some label.min)
  pub max_is : ReadsRatio max (Some label.max)
  pub margin_is : label.margin ≡ 0
  pub boxes_are : AllZip ReadsBox boxes label.boxes
  pub pieces_are : label.pieces ≡ id ∷ replicate (length boxes - 1) []

-- the line writes the label of class `place`: id, anchor, selectable range and boxes with one space between
pub record ReadsRow (line : List ℕ) (place : ℕ) (label : Label) : Type 0 where
  pub is_text : IsUtf8 line
  pub id : List ℕ
  pub x : List ℕ
  pub y : List ℕ
  pub min : List ℕ
  pub max : List ℕ
  pub boxes : List (List ℕ)
  pub split : parts 32 line ≡ id ∷ x ∷ y ∷ min ∷ max ∷ boxes
  pub writes : WritesLabel id x y min max boxes place label

-- the answer is the label that the line writes, with its id, or none where it writes no label
abbrev pub IsRowOf : List ℕ → ℕ → Option (Bor (List ℕ) × Label) → Type 0
IsRowOf line place answer =
    MatchOption answer ((label : Label) → ¬ (ReadsRow line place label)) (λ row. ReadsRow line place row.1 × (row.0.now ≡ row.1.order.id))

-- the same of the fields of a line
abbrev pub IsLabelWritten : List ℕ → List ℕ → List ℕ → List ℕ → List ℕ → List (List ℕ) → ℕ → Option Label → Type 0
IsLabelWritten id x y min max boxes place answer =
    MatchOption answer ((label : Label) → ¬ (WritesLabel id x y min max boxes place label)) (λ label. WritesLabel id x y min max boxes place label)
