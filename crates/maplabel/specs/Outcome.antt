-- What is due of a command, and what is printed.
use Rattle.std.specs.Prelude.{◌≡◌, ℕ, List, [], Option, Result, Ok, Err, codes, ◌⊎◌}
use Rattle.ml_io.specs.Calls.{Put}
use Rattle.ml_ratio.specs.Count.{one_more}
use Rattle.ml_io.specs.Causes.{Appends, AppendsPart}
use Rattle.ml_io.specs.Files.{FileSet}
use Rattle.ml_cert.specs.declared.verdict.Verdict.{Verdict}
use Rattle.ml_cert.specs.declared.verdict.Verdict.TheVariants.{Best, BadEnd, Clash, Uncovered, BadBlocker}
use Rattle.ml_command.specs.Answers.{IsVerdictTold}
use Rattle.maplabel.specs.declared.status.Status.{Status}
use Rattle.maplabel.specs.declared.status.Status.TheVariants.{Done, NotBest, StyleRefused, InputRefused, FileFault, WriteFault, Memory, TooLong}
use Rattle.ml_command.specs.declared.stop.Stop.{Stop}
use Rattle.ml_command.specs.declared.stop.Stop.TheVariants as stop

-- the line for words that have none of the forms
abbrev pub usage_line : List ℕ
usage_line = codes "usage: maplabel show, slots, check, view, pipe, serve or gen\n"

-- the status of a verdict
abbrev pub status_of : Verdict → Status
status_of Best = Done
status_of (BadEnd i) = NotBest
status_of (Clash i j limit) = NotBest
status_of (Uncovered i) = NotBest
status_of (BadBlocker i) = NotBest

-- the status and the line of the verdict on the slots
abbrev pub IsCheckAnswer : Option FileSet → List ℕ → List ℕ → Status → List ℕ → Type 0
IsCheckAnswer told table slots status text = (verdict : Verdict) × IsVerdictTold told table slots verdict text × (status ≡ status_of verdict)

-- a text that was due under a status was printed whole, and the output did not fail; or it failed once, a proper prefix was printed, and the status is that of a write fault
abbrev pub IsPrinted : List ℕ → Status → Put → Status → Type 0
IsPrinted text status out result =
    ((result ≡ status) × Appends out.written out.written_after text × (out.faults_after ≡ out.faults))
    ⊎ ((result ≡ WriteFault) × AppendsPart out.written out.written_after text × (out.faults_after ≡ one_more out.faults))

-- the line that a stop comes to, and its status
abbrev pub IsStopLine : Stop → Status → List ℕ → Type 0
IsStopLine (stop.StyleRefused line) status text = (status ≡ StyleRefused) × (text ≡ line)
IsStopLine (stop.InputRefused line) status text = (status ≡ InputRefused) × (text ≡ line)
IsStopLine stop.FileFault status text = (status ≡ FileFault) × (text ≡ codes "file fault\n")
IsStopLine stop.TooLong status text = (status ≡ TooLong) × (text ≡ codes "file too long\n")
IsStopLine stop.Memory status text = (status ≡ Memory) × (text ≡ [])

-- the line of a stop was printed, whole or as a write fault leaves it
abbrev pub IsStopPrinted : Stop → Put → Status → Type 0
IsStopPrinted s out result = (status : Status) × (text : List ℕ) × IsStopLine s status text × IsPrinted text status out result

-- a text that was due was printed, or the line of the stop that came in its place
abbrev pub IsAnswerPrinted : Result (List ℕ) Stop → Put → Status → Type 0
IsAnswerPrinted (Ok text) out result = IsPrinted text Done out result
IsAnswerPrinted (Err s) out result = IsStopPrinted s out result

-- the line of a verdict was printed under its status, or the line of the stop that came in its place
abbrev pub IsVerdictPrinted : Result (Verdict × List ℕ) Stop → Put → Status → Type 0
IsVerdictPrinted (Ok verdict) out result = IsPrinted verdict.1 (status_of verdict.0) out result
IsVerdictPrinted (Err s) out result = IsStopPrinted s out result
