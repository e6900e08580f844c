use Rattle.std.proofs.Common.{◌≡◌, []}
use Rattle.std.specs.Prelude.{All}
use Rattle.ml_gaps.specs.Near.{AreNears}
use Rattle.ml_gaps.specs.Bundle.{IsBundle, AreStrips}
use Rattle.ml_gaps.proofs.Choosing.{Chosen}
use Rattle.ml_gaps.proofs.choice.gaps.Given as goal

abbrev pub invariant-loop-label : goal.invariant-loop-label
invariant-loop-label l = record {
  chosen : Chosen l.labels l.label-index l.gaps;
  empty : l.pieces.items ≡ [];
  free : l.places.items ≡ [];
  nears : AreNears l.labels l.gaps l.nears.items;
  bundles : All IsBundle l.index.bundles.items;
  strips : AreStrips l.axis l.labels l.gaps l.index.bundles.items;
}
