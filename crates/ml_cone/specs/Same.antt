-- Labels that are the same, or nearly.
use Rattle.std.specs.Prelude.{◌≡◌}
use Rattle.ml_cone.specs.declared.label.Label.{Label}

-- the labels are the same but for their orders, which hold their ids
abbrev pub AreAlike : Label → Label → Type 0
AreAlike a b =
    (a.x ≡ b.x) × (a.y ≡ b.y) × (a.margin ≡ b.margin) × (a.min ≡ b.min) × (a.max ≡ b.max) × (a.boxes ≡ b.boxes) × (a.pieces ≡ b.pieces)
