use Rattle.std.proofs.Common.{◌≡◌, ◌∙◌, ap, arith, subst, sym}
use Rattle.ml_json.specs.Machine as m
use Rattle.ml_json.specs.Machine.{open_of}
use Rattle.ml_json.specs.State.{frames_of, Stops}
use Rattle.ml_json.specs.Lent.{lent_of}
use Rattle.ml_json.specs.declared.state.Stop.{Stop}
use Rattle.ml_json.proofs.FrameLemmas.{frames_length, taken_step}
use Rattle.ml_json.proofs.leaps.close.Goals as goal

pub unreachable-requires : goal.unreachable-requires
unreachable-requires c =
    let st = frames_of c.args.frames.now.items in
    let none = subst (λ (e : Stop). Stops e (m.after_step (lent_of c.args.value) st c.args.byte)) c.in-Err-NotJson.field-0-is c.in-Err-NotJson.ensures in
    let next = taken_step (lent_of c.args.value) st c.args.byte c.requires.takes (omega (arith, frames_length c.args.frames.now.items, c.requires.shallow)) in
    cc (sym next.1 ∙ none)

pub unreachable-requires-in-Err-Deep : goal.unreachable-requires-in-Err-Deep
unreachable-requires-in-Err-Deep c =
    let st = frames_of c.args.frames.now.items in
    let deep = subst (λ (e : Stop). Stops e (m.after_step (lent_of c.args.value) st c.args.byte)) c.in-Err-Deep.field-0-is c.in-Err-Deep.ensures in
    let next = taken_step (lent_of c.args.value) st c.args.byte c.requires.takes (omega (arith, frames_length c.args.frames.now.items, c.requires.shallow)) in
    let same : next.0 ≡ deep.0 = cc (sym next.1 ∙ deep.1) in
    omega (arith, next.2, deep.2, ap (λ (s : m.State). open_of s.0 s.1) same)
