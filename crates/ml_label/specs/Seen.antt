-- A placed text as contracts see it.
use Rattle.ml_label.specs.Placing.{Placing}
use Rattle.ml_label.specs.declared.placed.PlacedText.{PlacedText}

-- its anchor, its boxes and its pieces
abbrev pub placing_of : PlacedText → Placing
placing_of placed = record { anchor = placed.anchor; boxes = placed.boxes; pieces = placed.pieces }
