use Rattle.std.proofs.Common.{◌≡◌, ◌<◌, true, false, ◌∙◌, arith, get_or}
use Rattle.ml_ratio.specs.JsonNumber.{is_digit}
use Rattle.ml_json.proofs.Cutting.{digit_next, other_next}
use Rattle.ml_json.proofs.decimal.leading.Goals as goal
use Rattle.ml_json.proofs.decimal.leading.Goals.{then-is_digit, else-is_digit}

pub loop-byte-preserved : goal.loop-byte-preserved
loop-byte-preserved c = elim c.if-is_digit.branch [
  | then-is_digit w ↦ (
      let digit : is_digit (get_or c.args.text.now c.loop-byte.byte-index 0) ≡ true = cc in
      let some : 0 < c.loop-byte.left = omega arith in
      record {
        same = rw (w.left-is, w.number-is, w.min-number.ensures, w.from.ensures) (c.loop-byte.invariant.same
            ∙ digit_next c.loop-byte.number c.loop-byte.left c.args.most c.args.text.now c.loop-byte.byte-index c.loop-byte-test.true some digit);
        within = omega (arith, w.min-number.ensures, w.number-is);
      })
  | else-is_digit w ↦ (
      let other : is_digit (get_or c.args.text.now c.loop-byte.byte-index 0) ≡ false = cc in
      record {
        same = rw (w.left-is, w.number-is) (c.loop-byte.invariant.same ∙ other_next c.loop-byte.number c.loop-byte.left c.args.most c.args.text.now c.loop-byte.byte-index c.loop-byte-test.true other);
        within = omega (arith, w.number-is);
      })
]
