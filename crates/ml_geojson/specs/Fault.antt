-- Faults of JSON text as faults of a map file, and what an answer says of a reading.
use Rattle.std.specs.Prelude.{◌≡◌, Result, Ok, Err}
use Rattle.ml_json.specs.declared.value.JsonFault.{JsonFault}
use Rattle.ml_json.specs.declared.value.JsonFault.TheVariants as json
use Rattle.ml_geojson.specs.Positions.{Reading}
use Rattle.ml_geojson.specs.declared.fault.GeoFault.{GeoFault}
use Rattle.ml_geojson.specs.declared.fault.GeoFault.TheVariants.{NotJson, Deep, Memory}

-- a fault of JSON text, as one of a map file
abbrev pub fault_of : JsonFault → GeoFault
fault_of (json.NotJson at) = NotJson at
fault_of (json.Deep at) = Deep at
fault_of json.Memory = Memory

abbrev pub IsFaultOf : JsonFault → GeoFault → Type 0
IsFaultOf fault answer = answer ≡ fault_of fault

-- an answer's refusal is the reading's, or out of memory, which says nothing
abbrev pub Refuses : {X : Type 0} → GeoFault → Reading X → Type 0
Refuses Memory reading = Unit {0}
Refuses fault reading = reading ≡ Err fault

-- an answer gives the reading's value, seen so, or its refusal
abbrev pub Answers : {A X : Type 0} → (A → X) → Result A GeoFault → Reading X → Type 0
Answers view (Ok a) reading = reading ≡ Ok (view a)
Answers view (Err fault) reading = Refuses fault reading
