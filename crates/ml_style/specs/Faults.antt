-- Faults in their order, and what an answer says of them.
use Rattle.std.specs.Prelude.{◌≡◌, Bool, List, [], ◌∷◌, Option, Some, None, Result, Ok, Err, if◌then◌else◌}
use Rattle.ml_style.specs.declared.fault.StyleFault.{StyleFault}
use Rattle.ml_style.specs.declared.fault.StyleFault.TheVariants.{NotToml, Memory}

-- the fault where it stands, and none where it does not
abbrev pub fault_if : Bool → StyleFault → List StyleFault
fault_if stands fault = if stands then fault ∷ [] else []

-- the first of some faults
abbrev pub first : List StyleFault → Option StyleFault
first [] = None
first (fault ∷ faults) = Some fault

-- what a refusal says of the faults of what a TOML table writes; out of memory says nothing
abbrev pub Refuses : StyleFault → List StyleFault → Type 0
Refuses Memory faults = Unit {0}
Refuses NotToml faults = ⊥
Refuses fault faults = first faults ≡ Some fault

-- an answer is a value as it should be where there are no faults, and else the first of them
abbrev pub Answers : {X : Type 0} → Result X StyleFault → List StyleFault → (X → Type 0) → Type 0
Answers (Ok value) faults IsRight = (faults ≡ []) × IsRight value
Answers (Err fault) faults IsRight = Refuses fault faults
