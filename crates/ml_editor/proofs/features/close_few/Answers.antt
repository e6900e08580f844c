use Rattle.std.proofs.Common.{◌∙◌, ◌<◌, List, ap, subst, sym}
use Rattle.std.specs.Prelude.{All}
use Rattle.std.specs.Map.{keys_of}
use Rattle.ml_editor.specs.Features.{standing}
use Rattle.ml_editor.proofs.Numbers.{Place, closed_is, closed_low}
use Rattle.ml_editor.proofs.features.close_few.Goals as goal

pub returns-then-len-taken-clause-standing : goal.returns-then-len-taken-clause-standing
returns-then-len-taken-clause-standing c = ap standing c.close_up.ensures.entries ∙ closed_is c.args.places.now.entries

pub returns-then-len-taken-clause-low : goal.returns-then-len-taken-clause-low
returns-then-len-taken-clause-low c next low =
    subst (λ (es : List Place). All (λ n. n < next) (keys_of es)) (sym c.close_up.ensures.entries) (closed_low (λ n. n < next) c.args.places.now.entries low)
