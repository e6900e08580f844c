use Rattle.std.proofs.Common.{refl, arith}
use Rattle.ml_json.specs.Machine as m
use Rattle.ml_json.specs.Machine.{open_of}
use Rattle.ml_json.specs.State.{frames_of}
use Rattle.ml_json.proofs.FrameLemmas.{frames_length}
use Rattle.ml_json.proofs.brackets.open_value.Goals as goal

pub returns-else-len-lt64 : goal.returns-else-len-lt64
unfolding open_of
returns-else-len-lt64 c = ((m.first, frames_of c.args.frames.now.items), rw c.in-91.is refl, omega (arith, frames_length c.args.frames.now.items))

pub returns-else-len-lt64-2 : goal.returns-else-len-lt64-2
unfolding open_of
returns-else-len-lt64-2 c = ((m.first_key, frames_of c.args.frames.now.items), rw c.in-123.is refl, omega (arith, frames_length c.args.frames.now.items))
