use Rattle.std.proofs.Common.{◌≡◌, ◌+◌, sum_by}
use Rattle.std.specs.Str.{chars, IsUtf8}
use Rattle.std.specs.Str.Iter.{chars_rest}
use Rattle.ml_style.specs.Font.{advance_of}
use Rattle.ml_text.specs.Width.{advance_sum}
use Rattle.ml_text.proofs.measure.advance_sum.Given as goal

abbrev pub invariant-loop-ch : goal.invariant-loop-ch
invariant-loop-ch l = record {
  utf8 : IsUtf8 (chars_rest l.ch-iterator);
  sum : l.sum + sum_by (advance_of l.font) (chars (chars_rest l.ch-iterator)) ≡ advance_sum l.font l.text;
}
