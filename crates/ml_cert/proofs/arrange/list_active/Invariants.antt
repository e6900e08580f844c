use Rattle.std.proofs.Common.{◌≤◌}
use Rattle.ml_cert.specs.Strips.{AreListed}
use Rattle.ml_cert.proofs.arrange.list_active.Given as goal

abbrev pub invariant-loop-i : goal.invariant-loop-i
invariant-loop-i l = record {
  few : l.count ≤ l.i;
  listed : AreListed l.labels l.slots l.i l.spots l.count;
}
