use Rattle.std.proofs.Common.{◌∙◌, refl, sym}
use Rattle.ml_json.specs.Grammar.{no_blank}
use Rattle.ml_json.proofs.LeapLemmas.{starts, blank_more}
use Rattle.ml_json.proofs.plain.skip_space.Goals as goal

pub loop-bytes-init : goal.loop-bytes-init
loop-bytes-init c = no_blank

pub loop-bytes-preserved : goal.loop-bytes-preserved
loop-bytes-preserved c = blank_more c.loop-bytes.invariant (starts c.loop-bytes.bytes.now _ c.in-len1-up.len_at_least refl) (sym c.is_space.ensures ∙ c.if-is_space.true)
