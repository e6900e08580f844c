use Rattle.std.proofs.Common.{◌≡◌, ◌≤◌, min, take, drop}
use Rattle.std.specs.Str.Parse.{digits_value, digits_value_after}
use Rattle.ml_json.specs.Decimal.{digits_in}
use Rattle.ml_json.proofs.decimal.leading.Given as goal

abbrev pub invariant-loop-byte : goal.invariant-loop-byte
invariant-loop-byte l = record {
  same : min (digits_value 10 (take l.kept (digits_in l.text))) l.most ≡ min (digits_value_after 10 l.number (take l.left (digits_in (drop l.byte-index l.text)))) l.most;
  within : l.number ≤ l.most;
}
