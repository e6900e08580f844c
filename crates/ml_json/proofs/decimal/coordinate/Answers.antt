use Rattle.std.proofs.Common.{◌≡◌, ◌+◌, ◌/◌, ◌∙◌, sym, ap, subst, true, false, min, nat_le, refl, Some, w64, arith, rules}
use Rattle.std.proofs.lemmas.Bool.Decides.{nat_tests}
use Rattle.std.proofs.lemmas.Int.{to_z-of_z}
use Rattle.std.specs.Str.Parse.{starts_with_minus}
use Rattle.ml_json.specs.Decimal.{e7_of, e7_size, signed, size_at}
use Rattle.ml_ratio.specs.World.{IsInWorld}
use mir.Val.{to_z, of_z}
use Rattle.ml_json.proofs.FixedLemmas.{signed_world}
use Rattle.ml_json.proofs.Scaling.{size_bounded}
use Rattle.ml_json.proofs.decimal.coordinate.Goals as goal

pub returns-then-size-gt-FARTHEST-clause-value : goal.returns-then-size-gt-FARTHEST-clause-value
unfolding e7_of
returns-then-size-gt-FARTHEST-clause-value c =
    let text : c.as_bytes-text.result.now ≡ c.args.num.now = c.as_bytes-text.ensures.value in
    let size = size_bounded c.args.num.now c.scaled.result (c.scaled.ensures ∙ ap (λ s. min (size_at 8 s) 20000000010) text) in
    let beyond : nat_le (e7_size c.args.num.now) 2000000000 ≡ false = grind (arith, nat_tests) in
    rw beyond refl

pub returns-clause-value : goal.returns-clause-value
unfolding e7_of
returns-clause-value c =
    let text : c.as_bytes-text.result.now ≡ c.args.num.now = c.as_bytes-text.ensures.value in
    let size = size_bounded c.args.num.now c.scaled.result (c.scaled.ensures ∙ ap (λ s. min (size_at 8 s) 20000000010) text) in
    let within : nat_le (e7_size c.args.num.now) 2000000000 ≡ true = grind (arith, nat_tests) in
    let same : (c.scaled.result + 5) / 10 ≡ e7_size c.args.num.now = omega arith in
    let minus : c.is_negative.result ≡ starts_with_minus c.args.num.now = c.is_negative.ensures ∙ ap starts_with_minus text in
    let value : c.with_sign.result ≡ signed (starts_with_minus c.args.num.now) (e7_size c.args.num.now) = c.with_sign.ensures ∙ rw (minus, same) refl in
    rw within (ap (λ z. Some z) (to_z-of_z w64 c.with_sign.result (search rules) ∙ value))

pub returns-clause-world : goal.returns-clause-world
returns-clause-world c =
    let value : to_z w64 (of_z w64 c.with_sign.result) ≡ signed c.is_negative.result ((c.scaled.result + 5) / 10) = to_z-of_z w64 c.with_sign.result (search rules) ∙ c.with_sign.ensures in
    subst IsInWorld (sym value) (signed_world c.is_negative.result ((c.scaled.result + 5) / 10) c.if-size-gt-FARTHEST.false)
