use Rattle.ml_cert.specs.Judged.{AllSoundBefore}
use Rattle.ml_cert.proofs.judge.judge.Given as goal

abbrev pub invariant-loop-i : goal.invariant-loop-i
invariant-loop-i l = AllSoundBefore l.labels l.slots l.i
