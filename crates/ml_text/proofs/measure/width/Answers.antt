use Rattle.std.proofs.Common.{◌≡◌, ap, refl, ◌∙◌, min, sym}
use Rattle.ml_text.specs.Width.{width_of}
use Rattle.ml_text.proofs.Sums.{cut_off, width_low}
use Rattle.ml_text.proofs.measure.width.Goals as goal

pub returns-clause-value : goal.returns-clause-value
returns-clause-value c =
    let same : c.max.result ≡ width_of c.args.font.now c.args.size c.args.text.now =
    rw (c.max.ensures, c.div_ceil-width.ensures, c.from.ensures, c.from-2.ensures, c.advance_sum-advances.ensures.value, c.as_str.ensures.bytes) refl in
    c.unwrap_or.ensures ∙ cut_off c.try_from.result c.max.result c.try_from.ensures ∙ ap (λ x. min x 18446744073709551615) same

pub returns-clause-whole : goal.returns-clause-whole
returns-clause-whole c = λ short. returns-clause-value c ∙ sym (width_low c.args.font.now c.args.size c.args.text.now c.as_str.ensures.utf8 c.requires.1 short)
