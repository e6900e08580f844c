use Rattle.std.proofs.Common.{◌≡◌, true, false}
use Rattle.ml_tests_http.proofs.io.echoes.Given as goal

abbrev pub invariant-loop-byte : goal.invariant-loop-byte
invariant-loop-byte g l = (g.D.Door.listens l.door ≡ true) × (g.D.Door.is_out l.door ≡ false)
