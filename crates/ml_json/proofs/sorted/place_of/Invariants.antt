use Rattle.std.proofs.Common.{◌≤◌, length, drop}
use Rattle.ml_json.specs.Lent.{lent_pairs_view}
use Rattle.ml_json.proofs.Ascending.{First}
use Rattle.ml_json.proofs.sorted.place_of.Given as goal

abbrev pub invariant-loop-place : goal.invariant-loop-place
invariant-loop-place l = record {
  within : l.place ≤ length l.pairs;
  above : First l.key (lent_pairs_view (drop l.place l.pairs));
}

abbrev pub decreases-loop-place : goal.decreases-loop-place
decreases-loop-place l = l.place
