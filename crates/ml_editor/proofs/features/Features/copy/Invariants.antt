use Rattle.std.proofs.Common.{◌≡◌, ◌++◌}
use Rattle.std.specs.Map.{values_of}
use Rattle.ml_editor.specs.Features.{standing}
use Rattle.ml_editor.proofs.features.Features.copy.Given as goal

abbrev pub invariant-loop-number : goal.invariant-loop-number
invariant-loop-number l = l.features ++ values_of (standing l._number-iterator) ≡ l.self.list
