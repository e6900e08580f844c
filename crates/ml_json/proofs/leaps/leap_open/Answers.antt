use Rattle.std.proofs.Common.{◌<◌, length, refl, arith}
use Rattle.ml_json.specs.Machine.{first, first_key, step, open_of}
use Rattle.ml_json.specs.State.{mode_of, frames_of}
use Rattle.ml_json.specs.Leaps.{here}
use Rattle.ml_json.proofs.FrameLemmas.{frames_length}
use Rattle.ml_json.proofs.LeapLemmas.{byte_leaps}
use Rattle.ml_json.proofs.leaps.leap_open.Goals as goal

pub returns-in_default : goal.returns-in_default
returns-in_default c = here

pub returns-then-len-ge64 : goal.returns-then-len-ge64
returns-then-len-ge64 c = here

pub returns-in_default-first : goal.returns-in_default-first
returns-in_default-first c = here

pub returns-in-123 : goal.returns-in-123
unfolding step open_of
returns-in-123 c =
    let few : length (frames_of c.args.frames.now.items) < 64 = omega (arith, frames_length c.args.frames.now.items) in
    byte_leaps (mode_of c.args.mode.now) first_key (frames_of c.args.frames.now.items) 123 c.requires refl (omega arith) c.args.bytes.now c.in-len1-up.len_at_least c.in-123.is

pub returns-in-91 : goal.returns-in-91
unfolding step open_of
returns-in-91 c =
    let few : length (frames_of c.args.frames.now.items) < 64 = omega (arith, frames_length c.args.frames.now.items) in
    byte_leaps (mode_of c.args.mode.now) first (frames_of c.args.frames.now.items) 91 c.requires refl (omega arith) c.args.bytes.now c.in-len1-up.len_at_least c.in-91.is
