-- The inputs of a command, and what stops it before they are read.
use Rattle.std.specs.Prelude.{◌≡◌, ◌⊎◌, ℕ, ◌++◌, List, Option, Result, Ok, Err, codes, decimal}
use Rattle.ml_io.specs.Files.{FileSet, Seen, FailedAt, KeptName, IsLoaded, IsTooLong}
use Rattle.ml_cert.specs.SlotsText.{AreSlotLines, IsSlotsFault}
use Rattle.ml_cert.specs.declared.fault.SlotsFault.{SlotsFault}
use Rattle.ml_cert.specs.declared.fault.SlotsFault.TheVariants as slots_fault
use Rattle.ml_cone.specs.declared.label.Label.{Label}
use Rattle.ml_cone.specs.declared.slot.Slot.{Slot}
use Rattle.ml_pass.specs.Table.{IsTable, IsTableFault}
use Rattle.ml_pass.specs.declared.fault.TableFault.{TableFault}
use Rattle.ml_pass.specs.declared.fault.TableFault.TheVariants.{BadLine, SameId, Full, Memory}
use Rattle.ml_command.specs.declared.stop.Stop.{Stop}
use Rattle.ml_command.specs.declared.stop.Stop.TheVariants as stop

-- a file has at most 64 MiB
abbrev pub most_bytes : ℕ
most_bytes = 67108864

-- why a file that is due was not read: it was refused, as the line says, or it was not loaded
abbrev pub IsReadStop : (List ℕ → Type 0) → (List ℕ → Type 0) → Seen → List ℕ → Stop → Type 0
IsReadStop RefusesStyle RefusesInput seen name (stop.StyleRefused line) = RefusesStyle line
IsReadStop RefusesStyle RefusesInput seen name (stop.InputRefused line) = RefusesInput line
IsReadStop RefusesStyle RefusesInput seen name stop.FileFault = FailedAt seen name
IsReadStop RefusesStyle RefusesInput seen name stop.TooLong = IsTooLong seen.told name most_bytes
IsReadStop RefusesStyle RefusesInput seen name stop.Memory = Unit {0}

-- but for a file fault, the name that failed last is the one before
abbrev pub StopKeeps : Seen → Stop → Type 0
StopKeeps seen (stop.StyleRefused line) = KeptName seen
StopKeeps seen (stop.InputRefused line) = KeptName seen
StopKeeps seen stop.FileFault = Unit {0}
StopKeeps seen stop.TooLong = KeptName seen
StopKeeps seen stop.Memory = KeptName seen

-- the same of an answer or a stop: no load failed but that of a file fault
abbrev pub Keeps : {T : Type 0} → Seen → Result T Stop → Type 0
Keeps seen (Ok _) = KeptName seen
Keeps seen (Err s) = StopKeeps seen s

-- no line
abbrev pub IsNoLine : List ℕ → Type 0
IsNoLine line = ⊥

-- why the named file was not loaded
abbrev pub IsLoadStop : Seen → List ℕ → Stop → Type 0
IsLoadStop seen name s = IsReadStop IsNoLine IsNoLine seen name s

-- the stop tells a refused input by this line, or out of memory
abbrev pub IsInputRefusal : (List ℕ → Type 0) → Stop → Type 0
IsInputRefusal IsLine (stop.StyleRefused line) = ⊥
IsInputRefusal IsLine (stop.InputRefused line) = IsLine line
IsInputRefusal IsLine stop.FileFault = ⊥
IsInputRefusal IsLine stop.TooLong = ⊥
IsInputRefusal IsLine stop.Memory = Unit {0}

-- the named file is a table of these labels
abbrev pub HasTable : Option FileSet → List ℕ → List Label → Type 0
HasTable told name labels = (bytes : List ℕ) × IsLoaded told name most_bytes bytes × IsTable bytes labels

-- the line that says why a table is refused; there is none for out of memory
abbrev pub IsTableLine : TableFault → List ℕ → Type 0
IsTableLine (BadLine k) line = line ≡ codes "table refused: 1 BadLine " ++ (decimal k ++ codes "\n")
IsTableLine (SameId k) line = line ≡ codes "table refused: 2 SameId " ++ (decimal k ++ codes "\n")
IsTableLine Full line = line ≡ codes "table refused: 3 Full\n"
IsTableLine Memory line = ⊥

-- the named file is no table, as the line says
abbrev pub IsNoTable : Option FileSet → List ℕ → List ℕ → Type 0
IsNoTable told name line =
    (bytes : List ℕ) × (fault : TableFault) × IsLoaded told name most_bytes bytes × IsTableFault bytes fault × IsTableLine fault line

-- why the named table was not read
abbrev pub IsTableStop : Seen → List ℕ → Stop → Type 0
IsTableStop seen name s = IsReadStop IsNoLine (IsNoTable seen.told name) seen name s

-- the named file has these slots for the labels
abbrev pub HasSlots : Option FileSet → List Label → List ℕ → List Slot → Type 0
HasSlots told labels name slots = (bytes : List ℕ) × IsLoaded told name most_bytes bytes × AreSlotLines labels bytes slots

-- the line that says why slots are refused; there is none for out of memory
abbrev pub IsSlotsLine : SlotsFault → List ℕ → Type 0
IsSlotsLine (slots_fault.BadLine k) line = line ≡ codes "slots refused: 1 BadLine " ++ (decimal k ++ codes "\n")
IsSlotsLine slots_fault.Memory line = ⊥

-- the named file has no slots for the labels, as the line says
abbrev pub AreNoSlots : Option FileSet → List Label → List ℕ → List ℕ → Type 0
AreNoSlots told labels name line =
    (bytes : List ℕ) × (fault : SlotsFault) × IsLoaded told name most_bytes bytes × IsSlotsFault labels bytes fault × IsSlotsLine fault line

-- why the named slots were not read
abbrev pub IsSlotsStop : Seen → List Label → List ℕ → Stop → Type 0
IsSlotsStop seen labels name s = IsReadStop IsNoLine (AreNoSlots seen.told labels name) seen name s

-- why slots were not checked: the table was not read, or it was and the slots were not
abbrev pub IsCheckStop : Seen → List ℕ → List ℕ → Stop → Type 0
IsCheckStop seen table slots s =
    IsTableStop seen table s ⊎ ((labels : List Label) × HasTable seen.told table labels × IsSlotsStop seen labels slots s)
