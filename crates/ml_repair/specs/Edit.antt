use Rattle.std.specs.Prelude.{ℕ, ◌≡◌, ◌≢◌, ◌⊎◌, ◌↔◌, List, Option, Some, Contains}
use Rattle.ml_cone.specs.declared.label.Label.{Label}

-- after an edit the labels are those before it but any with this id, and besides the one that comes, if one does
abbrev pub IsEdited : List ℕ → Option Label → List Label → List Label → Type 0
IsEdited id come before after = (label : Label) → Contains after label ↔ ((Contains before label × (label.order.id ≢ id)) ⊎ (come ≡ Some label))
