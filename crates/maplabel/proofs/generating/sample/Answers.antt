use Rattle.std.proofs.Common.{subst}
use Rattle.ml_style.specs.StyleTable.{IsStyle}
use Rattle.maplabel.proofs.GenStops.{sample_refused}
use Rattle.maplabel.proofs.generating.sample.Goals as goal

pub returns-in-Ok-clause-ok : goal.returns-in-Ok-clause-ok
returns-in-Ok-clause-ok c = subst (λ bytes. IsStyle bytes c.in-Ok.style) c.sample_text.ensures c.in-Ok.ensures.ok

pub returns-in-Err-clause-stop : goal.returns-in-Err-clause-stop
returns-in-Err-clause-stop c = sample_refused c.sample_text.result.now c.in-Err.fault c.style_refusal.result c.sample_text.ensures c.in-Err.ensures.fault c.style_refusal.ensures
