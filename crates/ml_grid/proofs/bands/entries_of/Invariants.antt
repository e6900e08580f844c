use Rattle.std.proofs.Common.{◌≡◌, ◌*◌, ◌≤◌}
use Rattle.ml_grid.specs.Count.{entries_below}
use Rattle.ml_grid.proofs.bands.entries_of.Given as goal

abbrev pub invariant-loop-band : goal.invariant-loop-band
invariant-loop-band l = record {
  counted : l.count ≡ entries_below l.label l.band;
  few : l.count ≤ 16 * l.band;
}
