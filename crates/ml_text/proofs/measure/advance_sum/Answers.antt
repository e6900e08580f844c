use Rattle.std.proofs.Common.{◌<◌, ◌^◌, length, arith, rules}
use Rattle.std.proofs.lemmas.Str.{IsUtf8-past_char}
use Rattle.std.specs.Str.Iter.{chars_rest}
use Rattle.ml_text.proofs.Sums.{sum_low, one_more, no_more}
use Rattle.ml_text.proofs.measure.advance_sum.Goals as goal

pub overflow_add-sum : goal.overflow_add-sum
overflow_add-sum c =
    let short : length c.args.text.now < 2 ^ 64 = search rules in
    let low = sum_low c.args.font.now c.args.text.now c.utf8.text in
    let more = one_more c.args.font.now (chars_rest c.loop-ch.ch-iterator) (chars_rest c.next.new.self) c.in-Some.ch c.loop-ch.invariant.utf8 c.in-Some.ensures.steps.0 in
    let sum = c.loop-ch.invariant.sum in
    let width = c.advance.ensures.value in
    omega arith

pub loop-ch-preserved : goal.loop-ch-preserved
loop-ch-preserved c =
    let more = one_more c.args.font.now (chars_rest c.loop-ch.ch-iterator) (chars_rest c.next.new.self) c.in-Some.ch c.loop-ch.invariant.utf8 c.in-Some.ensures.steps.0 in
    let sum = c.loop-ch.invariant.sum in
    let width = c.advance.ensures.value in
    record {
      utf8 = IsUtf8-past_char (chars_rest c.loop-ch.ch-iterator) (chars_rest c.next.new.self) c.in-Some.ch c.loop-ch.invariant.utf8 c.in-Some.ensures.steps.0;
      sum = omega arith;
    }

pub returns-clause-value : goal.returns-clause-value
returns-clause-value c =
    let none = no_more c.args.font.now (chars_rest c.loop-ch.ch-iterator) c.in-None.ensures.steps.0.0 in
    let sum = c.loop-ch.invariant.sum in
    omega arith

pub returns-clause-low : goal.returns-clause-low
returns-clause-low c =
    let short : length c.args.text.now < 2 ^ 64 = search rules in
    let low = sum_low c.args.font.now c.args.text.now c.utf8.text in
    let sum = c.loop-ch.invariant.sum in
    omega arith
