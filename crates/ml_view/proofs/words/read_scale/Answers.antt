use Rattle.std.proofs.Common.{sym, ◌∙◌}
use Rattle.ml_view.proofs.Scales.{scale_word}
use Rattle.ml_view.proofs.words.read_scale.Goals as goal

pub returns-else-is_scale : goal.returns-else-is_scale
returns-else-is_scale c r is =
    let yes = c.is_scale.ensures.1 (scale_word c.args.word.now r c.in-Some.scale c.in-Some.ensures is) in
    let no = c.if-is_scale.false in
    let both = sym no ∙ yes in
    absurd (cc)
