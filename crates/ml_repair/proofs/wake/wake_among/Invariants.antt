use Rattle.std.proofs.Common.{◌≡◌, length, take, Contains}
use Rattle.ml_store.specs.Rows.{labels_in}
use Rattle.ml_repair.specs.Repair.{IsWokenBy}
use Rattle.ml_repair.proofs.wake.wake_among.Given as goal

abbrev pub invariant-loop-place : goal.invariant-loop-place
invariant-loop-place l = (length l.waiting ≡ length l.roster) × IsWokenBy (labels_in l.roster) l.i (Contains (take l.place-index l.places)) l.initial.waiting l.waiting
