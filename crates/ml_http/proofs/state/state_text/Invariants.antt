use Rattle.std.proofs.Common.{length}
use Rattle.ml_http.proofs.StatePlaces.{AreAdded}
use Rattle.ml_http.proofs.state.state_text.Given as goal

abbrev pub invariant-loop-number : goal.invariant-loop-number
invariant-loop-number l = AreAdded l.editor.engine.rows l.rev (length l.number-items) l.number-index l.text
