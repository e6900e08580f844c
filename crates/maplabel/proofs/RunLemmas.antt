-- What a run comes to where an answer was due, and what generating a map keeps.
use Rattle.std.proofs.Common.{◌≡◌, ℕ, List, Ok, Err, refl, inl, inr}
use Rattle.std.specs.Prelude.{◌⊎◌, Result, IfOk, IfErr}
use Rattle.ml_io.specs.Calls.{Put}
use Rattle.ml_io.specs.Files.{Seen, KeptName}
use Rattle.ml_command.specs.Inputs.{Keeps}
use Rattle.maplabel.specs.Generating.{IsGenStop}
use Rattle.ml_cert.specs.declared.verdict.Verdict.{Verdict}
use Rattle.maplabel.specs.Outcome.{IsAnswerPrinted, IsVerdictPrinted, status_of}
use Rattle.maplabel.specs.Run.{IsTold, IsStopped}
use Rattle.maplabel.specs.declared.status.Status.{Status}
use Rattle.maplabel.specs.declared.status.Status.TheVariants.{Done}
use Rattle.ml_command.specs.declared.stop.Stop.{Stop}
use Rattle.ml_command.specs.declared.stop.Stop.TheVariants as stop

-- a text was due, or a stop came in its place, and the one or the other was printed
pub text_end : (saw : Seen) (out : Put) (due : List ℕ → Type 0) (stops : Stop → Type 0) (answer : Result (List ℕ) Stop) (status : Status)
    → IfOk answer due → IfErr answer stops → Keeps saw answer → IsAnswerPrinted answer out status
    → IsTold saw out (λ now text. due text × (now ≡ Done)) status ⊎ IsStopped saw out stops status
text_end saw out due stops (Ok text) status is why kept printed = inl (Done, text, (is, refl), kept, printed)
text_end saw out due stops (Err s) status is why kept printed = inr (s, why, kept, printed)

-- the same of a verdict
pub verdict_end : (saw : Seen) (out : Put) (due : Verdict → List ℕ → Type 0) (stops : Stop → Type 0) (answer : Result (Verdict × List ℕ) Stop) (status : Status)
    → IfOk answer (λ verdict. due verdict.0 verdict.1) → IfErr answer stops → Keeps saw answer → IsVerdictPrinted answer out status
    → IsTold saw out (λ now text. (verdict : Verdict) × due verdict text × (now ≡ status_of verdict)) status ⊎ IsStopped saw out stops status
verdict_end saw out due stops (Ok verdict) status is why kept printed = inl (status_of verdict.0, verdict.1, (verdict.0, is, refl), kept, printed)
verdict_end saw out due stops (Err s) status is why kept printed = inr (s, why, kept, printed)

-- generating a map loads no file
pub gen_keeps : (saw : Seen) (answer : Result (List ℕ) Stop) → KeptName saw → IfErr answer IsGenStop → Keeps saw answer
gen_keeps saw (Ok text) kept why = kept
gen_keeps saw (Err (stop.StyleRefused line)) kept why = kept
gen_keeps saw (Err (stop.InputRefused line)) kept why = kept
gen_keeps saw (Err stop.FileFault) kept why = absurd why
gen_keeps saw (Err stop.TooLong) kept why = kept
gen_keeps saw (Err stop.Memory) kept why = kept
