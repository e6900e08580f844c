use Rattle.std.proofs.Common.{◌≡◌, ◌∙◌, sym, ap, true, false, min, refl}
use Rattle.std.specs.Str.Parse.{starts_with_minus}
use Rattle.ml_json.specs.Decimal.{whole_of, size_at}
use Rattle.ml_json.proofs.decimal.whole_part.Goals as goal

pub returns-then-is_negative-clause-value : goal.returns-then-is_negative-clause-value
unfolding whole_of
returns-then-is_negative-clause-value c =
    let text : c.as_bytes-text.result.now ≡ c.args.num.now = c.as_bytes-text.ensures.value ∙ c.as_str.ensures.bytes in
    let minus : starts_with_minus c.args.num.now ≡ true = ap starts_with_minus (sym text) ∙ sym c.is_negative.ensures ∙ c.if-is_negative.true in
    rw minus refl

pub returns-clause-value : goal.returns-clause-value
unfolding whole_of
returns-clause-value c =
    let text : c.as_bytes-text.result.now ≡ c.args.num.now = c.as_bytes-text.ensures.value ∙ c.as_str.ensures.bytes in
    let plus : starts_with_minus c.args.num.now ≡ false = ap starts_with_minus (sym text) ∙ sym c.is_negative.ensures ∙ c.if-is_negative.false in
    rw plus (c.scaled.ensures ∙ ap (λ s. min (size_at 0 s) 9007199254740992) text)
