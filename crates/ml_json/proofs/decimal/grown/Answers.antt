use Rattle.std.proofs.Common.{◌*◌, ◌^◌, ◌-◌, min, ◌∙◌, ap, sym, arith}
use Rattle.ml_json.proofs.Cutting.{zero_more, zeros_full}
use Rattle.ml_json.proofs.decimal.grown.Goals as goal

pub loop-left-preserved : goal.loop-left-preserved
loop-left-preserved c = record {
  same = c.loop-left.invariant.same ∙ sym (zero_more c.loop-left.number c.loop-left.left c.args.most c.loop-left-test.true)
      ∙ ap (λ n. min (n * 10 ^ (c.loop-left.left - 1)) c.args.most) (sym c.min-number.ensures);
  within = omega (arith, c.min-number.ensures);
}

pub returns-else-number-most : goal.returns-else-number-most
returns-else-number-most c = zeros_full c.loop-left.number c.loop-left.left c.args.most c.loop-left.invariant.within c.if-number-most.false ∙ sym c.loop-left.invariant.same
