use Rattle.std.proofs.Common.{◌≤◌, length, arith, subst}
use Rattle.ml_json.specs.Machine.{State}
use Rattle.ml_json.specs.Lent.{lent_of}
use Rattle.ml_json.specs.State.{mode_of, frames_of}
use Rattle.ml_json.specs.Leaps.{PlainScalar, here}
use Rattle.ml_json.proofs.FrameLemmas.{frames_length}
use Rattle.ml_json.proofs.LeapLemmas.{value_awaits, value_shallow, scalar_leaps}
use Rattle.ml_json.proofs.leaps.leap_scalar.Goals as goal

pub returns-in_default : goal.returns-in_default
returns-in_default c = here

pub returns-in_default-closing : goal.returns-in_default-closing
returns-in_default-closing c = here

pub close-requires : goal.close-requires
close-requires c = record {
  shallow = omega (arith, frames_length c.args.frames.now.items, value_shallow (mode_of c.args.mode.now) (frames_of c.args.frames.now.items) c.requires.value c.requires.shallow);
  takes = c.in-Some-closing.ensures.takes;
}

pub returns : goal.returns
returns c =
    let n = mode_of c.args.mode.now in
    let st = frames_of c.args.frames.now.items in
    let y : State = (mode_of c.in_ok-mode.field-0, frames_of c.close.new.frames.items) in
    let le : length st ≤ 64 = value_shallow n st c.requires.value c.requires.shallow in
    let scalar = subst (PlainScalar (lent_of c.in-Some.value) c.args.bytes.now) c.in-Some-closing.ensures.cut c.in-Some.ensures in
    let steps = c.in_ok-mode.ensures in
    scalar_leaps (n, st) st (value_awaits n st c.requires.value) le c.in-Some-closing.byte c.in-Some-closing.rest.now y scalar c.in-Some-closing.ensures.takes steps.0 steps.1
