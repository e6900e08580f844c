use Rattle.std.proofs.Common.{◌≤◌, length}
use Rattle.ml_json.specs.Machine.{open_of}
use Rattle.ml_json.specs.State.{mode_of, frames_of}
use Rattle.ml_json.proofs.Places.{Stands}
use Rattle.ml_json.proofs.reader.scan.Given as goal

abbrev pub invariant-loop-rest : goal.invariant-loop-rest
invariant-loop-rest l = record {
  stands : Stands l.bytes l.rest (mode_of l.mode, frames_of l.frames.items);
  shallow : open_of (mode_of l.mode) (frames_of l.frames.items) ≤ 64;
}

abbrev pub decreases-loop-rest : goal.decreases-loop-rest
decreases-loop-rest l = length l.rest
