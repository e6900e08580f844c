use Rattle.std.specs.Prelude.{ℕ}
use Rattle.maplabel.specs.declared.status.Status.{Status}
use Rattle.maplabel.specs.declared.status.Status.TheVariants.{Done, NotBest, Usage, StyleRefused, InputRefused, FileFault, ReadFault, WriteFault, DoorFault, Memory, TooLong, NotAdopted}

-- the exit code of a status
abbrev pub code_of : Status → ℕ
code_of Done = 0
code_of NotBest = 1
code_of Usage = 2
code_of StyleRefused = 3
code_of InputRefused = 4
code_of FileFault = 5
code_of ReadFault = 6
code_of WriteFault = 7
code_of DoorFault = 8
code_of Memory = 9
code_of TooLong = 10
code_of NotAdopted = 11
