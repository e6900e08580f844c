use Rattle.std.proofs.Common.{◌≡◌, ◌+◌, ◌<◌, [], length}
use Rattle.ml_conflict.specs.Strip.{AreStrips, AreBlocks}
use Rattle.ml_pass.specs.Search.{AreHeld}
use Rattle.ml_pass.proofs.Assigning.{Assigned}
use Rattle.ml_pass.proofs.pass.choose.Given as goal

abbrev pub invariant-loop-i : goal.invariant-loop-i
invariant-loop-i g l = record {
  so_far : Assigned l.labels l.i l.slots.items;
  some : 0 < length l.labels → 0 < length l.field.strips.items;
  strips : AreStrips l.labels l.field.strips.items;
  blocks : AreBlocks l.field.strips.items l.field.blocks.items;
  held : AreHeld l.labels l.slots.items l.field.strips.items;
  empty : l.places.items ≡ [];
  spent : l.steps ≡ l.fn.steps + l.i;
}
