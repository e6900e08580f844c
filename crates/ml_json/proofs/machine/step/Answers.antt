use Rattle.std.proofs.Common.{◌≤◌, subst, refl, string_bytes}
use Rattle.ml_json.specs.Strings.{hex_digit}
use Rattle.ml_json.specs.Partial.{tail_of}
use Rattle.ml_json.specs.Machine as m
use Rattle.ml_json.specs.Machine.{open_of, step}
use Rattle.ml_json.specs.State.{frames_of, mode_of, owner_of}
use Rattle.ml_json.specs.declared.state.Mode.{Mode}
use Rattle.ml_json.specs.declared.state.Mode.TheVariants as modes
use Rattle.ml_json.proofs.Quiet.{goes_steps, inside_quiet}
use Rattle.ml_json.proofs.DepthRuns.{place_of}
use Rattle.ml_json.proofs.machine.step.Goals as goal

pub returns-in-Hex : goal.returns-in-Hex
unfolding place_of step
returns-in-Hex c =
    let le = subst (λ (x : Mode). open_of (mode_of x) (frames_of c.args.frames.now.items) ≤ 64) c.in-Hex.is c.requires in
    rw c.in-Hex.is (goes_steps c.hex_next.result (mode_of (modes.Hex c.in-Hex.text c.in-Hex.code)) c.args.frames.now.items c.args.byte
    (λ st. m.hex_step (owner_of c.in-Hex.text.owner) c.in-Hex.text.half (string_bytes c.in-Hex.text.text) c.in-Hex.code.left c.in-Hex.code.sum st (hex_digit c.args.byte))
    c.hex_next.ensures refl (inside_quiet (mode_of (modes.Hex c.in-Hex.text c.in-Hex.code)) (frames_of c.args.frames.now.items) c.args.byte refl) le)

pub returns-in-Text : goal.returns-in-Text
unfolding place_of step
returns-in-Text c =
    let le = subst (λ (x : Mode). open_of (mode_of x) (frames_of c.args.frames.now.items) ≤ 64) c.in-Text.is c.requires in
    rw c.in-Text.is (goes_steps c.text_next.result (mode_of (modes.Text c.in-Text.text)) c.args.frames.now.items c.args.byte
    (λ st. m.text_step (owner_of c.in-Text.text.owner) c.in-Text.text.half (string_bytes c.in-Text.text.text) st c.args.byte)
    c.text_next.ensures refl (inside_quiet (mode_of (modes.Text c.in-Text.text)) (frames_of c.args.frames.now.items) c.args.byte refl) le)

pub returns-in-Bytes : goal.returns-in-Bytes
unfolding place_of step
returns-in-Bytes c =
    let le = subst (λ (x : Mode). open_of (mode_of x) (frames_of c.args.frames.now.items) ≤ 64) c.in-Bytes.is c.requires in
    rw c.in-Bytes.is (goes_steps c.bytes_next.result (mode_of (modes.Bytes c.in-Bytes.text c.in-Bytes.partial)) c.args.frames.now.items c.args.byte
    (λ st. m.bytes_step (owner_of c.in-Bytes.text.owner) c.in-Bytes.text.half (string_bytes c.in-Bytes.text.text) (tail_of c.in-Bytes.partial.tail) c.in-Bytes.partial.got.items st c.args.byte)
    c.bytes_next.ensures refl (inside_quiet (mode_of (modes.Bytes c.in-Bytes.text c.in-Bytes.partial)) (frames_of c.args.frames.now.items) c.args.byte refl) le)
