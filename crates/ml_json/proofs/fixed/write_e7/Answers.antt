use Rattle.std.proofs.Common.{◌≡◌, ◌<◌, ◌^◌, ◌∙◌, sym, ap, subst, unsigned_abs, ◌++◌, arith, w64, rules}
use Rattle.std.proofs.lemmas.Int.{ints, to_z-of_z}
use Rattle.std.proofs.lemmas.Str.{IsUtf8-from_ascii}
use Rattle.std.specs.Str.{IsUtf8}
use Rattle.ml_ratio.specs.JsonNumber.{IsNumber}
use Rattle.ml_json.specs.Fixed.{e7_text, ReadsBack}
use Rattle.ml_json.proofs.FixedLemmas.{text_ascii, text_number, text_back}
use Rattle.ml_json.proofs.fixed.write_e7.Goals as goal

pub from_utf8_unchecked-requires : goal.from_utf8_unchecked-requires
from_utf8_unchecked-requires c =
    let v = c.args.v in
    let fits = c.ranges.v.sfits in
    let small : unsigned_abs v < 2 ^ 64 = grind (arith, ints) in
    let text : c.put_e7.new.out.items ≡ e7_text v =
    c.in_ok-put_e7.ensures ∙ ap (λ w. c.new-text.result.items ++ e7_text w) (to_z-of_z w64 v (search rules))
    ∙ ap (λ s. s ++ e7_text v) c.new-text.ensures.items in
    subst IsUtf8 (sym text) (IsUtf8-from_ascii (e7_text v) (text_ascii v small))

pub returns : goal.returns
returns c =
    let v = c.args.v in
    let fits = c.ranges.v.sfits in
    let small : unsigned_abs v < 2 ^ 64 = grind (arith, ints) in
    let text : c.of_string.result ≡ e7_text v =
    c.of_string.ensures ∙ ap (λ b. b.items) c.from_utf8_unchecked.ensures.value
    ∙ c.in_ok-put_e7.ensures ∙ ap (λ w. c.new-text.result.items ++ e7_text w) (to_z-of_z w64 v (search rules))
    ∙ ap (λ s. s ++ e7_text v) c.new-text.ensures.items in
    record {
      ok = text;
      number = subst IsNumber (sym text) (text_number v small);
      back = subst (ReadsBack v) (sym text) (text_back v);
    }
