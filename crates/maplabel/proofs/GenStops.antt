-- Why there is no generated map.
use Rattle.std.proofs.Common.{◌≡◌, List, ℕ, subst}
use Rattle.ml_style.specs.Answer as style_answer
use Rattle.ml_style.specs.declared.fault.StyleFault.{StyleFault}
use Rattle.ml_command.specs.MapInputs.{IsStyleRefusal}
use Rattle.maplabel.specs.Generating.{IsGenStop, sample_style}
use Rattle.ml_command.specs.declared.stop.Stop.{Stop}
use Rattle.ml_command.specs.declared.stop.Stop.TheVariants as stop

-- a style that refuses the sample refuses it by this line
pub sample_refused : (bytes : List ℕ) (fault : StyleFault) (s : Stop) → bytes ≡ sample_style → style_answer.IsRefusal bytes fault → IsStyleRefusal fault s → IsGenStop s
sample_refused bytes fault (stop.StyleRefused line) same refuses told = (fault, subst (λ b. style_answer.IsRefusal b fault) same refuses, told)
sample_refused bytes fault (stop.InputRefused line) same refuses told = told
sample_refused bytes fault stop.FileFault same refuses told = told
sample_refused bytes fault stop.TooLong same refuses told = told
sample_refused bytes fault stop.Memory same refuses told = tt
