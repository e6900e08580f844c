use Rattle.std.proofs.Common.{◌≡◌, ◌+◌, ◌-◌, ◌*◌, ◌^◌, ◌∙◌, sym, ap, length, min, take, refl}
use Rattle.std.specs.Str.Parse.{starts_with_minus, digits_value}
use Rattle.ml_json.specs.Decimal.{mantissa, exponent, behind, digits_in}
use Rattle.ml_json.proofs.Scaling.{scaled_up, scaled_down}
use Rattle.ml_json.proofs.decimal.scaled.Goals as goal
use Rattle.ml_json.proofs.decimal.scaled.Goals.{then-is_negative, else-is_negative}

pub returns : goal.returns
returns c =
    let text = c.args.text.now in
    let digits : c.digit_count-digits.result ≡ length (digits_in (mantissa text)) = c.digit_count-digits.ensures ∙ ap (λ s. length (digits_in s)) c.before-mantissa.ensures in
    let places : c.digit_count-places.result ≡ length (digits_in (behind 46 46 (mantissa text))) =
    c.digit_count-places.ensures ∙ ap (λ s. length (digits_in s)) (c.behind.ensures ∙ ap (behind 46 46) c.before-mantissa.ensures) in
    let size : c.leading-size.result ≡ min (digits_value 10 (take (length (exponent text)) (digits_in (exponent text)))) (length text + 64) =
    c.leading-size.ensures ∙ ap (λ s. min (digits_value 10 (take (length s) (digits_in s))) (length text + 64)) c.behind-exponent.ensures in
    let minus : c.is_negative.result ≡ starts_with_minus (exponent text) = c.is_negative.ensures ∙ ap starts_with_minus c.behind-exponent.ensures in
    let kept = c.if-is_negative.kept in
    let front : c.leading.result ≡ min (digits_value 10 (take kept (digits_in (mantissa text)))) c.args.most =
    c.leading.ensures ∙ ap (λ s. min (digits_value 10 (take kept (digits_in s))) c.args.most) c.before-mantissa.ensures in
    let zeros : c.saturating_sub.result ≡ kept - length (digits_in (mantissa text)) = c.saturating_sub.ensures ∙ ap (λ n. kept - n) digits in
    c.grown.ensures ∙ ap (λ n. min (n * 10 ^ c.saturating_sub.result) c.args.most) front
    ∙ ap (λ n. min (min (digits_value 10 (take kept (digits_in (mantissa text)))) c.args.most * 10 ^ n) c.args.most) zeros
    ∙ elim c.if-is_negative.branch [
      | then-is_negative w ↦ scaled_down text c.args.power c.args.most kept c.leading-size.result c.requires.power c.requires.most (sym minus ∙ w.if-is_negative.true) size
          (w.kept-is ∙ w.saturating_sub-kept.ensures ∙ rw (digits, places) refl)
      | else-is_negative w ↦ scaled_up text c.args.power c.args.most kept c.leading-size.result c.requires.power c.requires.most (sym minus ∙ w.if-is_negative.false) size
          (w.kept-is ∙ w.saturating_sub-kept-else-is_negative.ensures ∙ rw (digits, places) refl)
    ]
