use Rattle.std.proofs.Common.{List, ℕ}
use Rattle.std.specs.Borrow.{Bor}
use Rattle.std.proofs.lemmas.Result.{IfOk-weaker}
use Rattle.ml_json.specs.State.{mode_of, frames_of}
use Rattle.ml_json.specs.Leaps.{Leaps}
use Rattle.ml_json.proofs.LeapLemmas.{space_leaps}
use Rattle.ml_json.proofs.leaps.leap_value.Goals as goal

pub returns-in_default : goal.returns-in_default
returns-in_default c =
    let From : List ℕ → Bor (List ℕ) → Type 0 = λ s. Leaps c.args.mode.now c.args.frames.now.items s c.leap_scalar.new.mode c.leap_scalar.new.frames.items in
    IfOk-weaker c.leap_scalar.result (From c.skip_space-bytes.result.now) (From c.args.bytes.now)
    (λ rest p. space_leaps (mode_of c.args.mode.now) (frames_of c.args.frames.now.items) c.requires.value c.requires.shallow c.skip_space-bytes.ensures p) c.leap_scalar.ensures

pub returns-in-123 : goal.returns-in-123
returns-in-123 c = space_leaps (mode_of c.args.mode.now) (frames_of c.args.frames.now.items) c.requires.value c.requires.shallow c.skip_space-bytes.ensures c.leap_open.ensures
