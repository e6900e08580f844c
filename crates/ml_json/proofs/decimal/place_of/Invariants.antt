use Rattle.std.proofs.Common.{◌≡◌, ◌++◌, take, drop}
use Rattle.ml_json.specs.Decimal.{before, behind}
use Rattle.ml_json.proofs.decimal.place_of.Given as goal

abbrev pub invariant-loop-at : goal.invariant-loop-at
invariant-loop-at l = record {
  front : before l.first l.second l.text ≡ take l.at l.text ++ before l.first l.second (drop l.at l.text);
  back : behind l.first l.second l.text ≡ behind l.first l.second (drop l.at l.text);
}
