use Rattle.std.proofs.Common.{take}
use Rattle.ml_repair.proofs.Seeing.{ShownAmong}
use Rattle.ml_repair.proofs.shown.shown_among.Given as goal

abbrev pub invariant-loop-number : goal.invariant-loop-number
invariant-loop-number l = ShownAmong l.store.rows l.view (take l.number-index l.numbers) l.places
