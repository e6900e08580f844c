use Rattle.std.proofs.Common.{◌≡◌, ◌∷◌, ◌∙◌, [], false, IsTrue, List, ap, subst, sym}
use Rattle.ml_json.specs.Machine as m
use Rattle.ml_json.specs.State.{frame_of, frames_of}
use Rattle.ml_json.specs.Leaps.{TakesByte}
use Rattle.ml_json.proofs.FrameLemmas.{frames_top, frames_none}
use Rattle.ml_json.proofs.leaps.closes.Goals as goal

pub returns-in-Some : goal.returns-in-Some
returns-in-Some c =
    let top = frames_top c.deref.result.now c.in-Some.frame.now (sym c.in-Some.ensures.value) in
    let same : frames_of c.args.frames.now.items ≡ frame_of c.in-Some.frame.now ∷ top.0 = ap frames_of (sym c.deref.ensures.value) ∙ top.1 in
    subst (λ (st : List m.Frame). (IsTrue c.takes.result → TakesByte st c.args.byte) × (TakesByte st c.args.byte → IsTrue c.takes.result)) (sym same) c.takes.ensures

pub returns-in-None : goal.returns-in-None
returns-in-None c =
    let same : frames_of c.args.frames.now.items ≡ [] = ap frames_of (sym c.deref.ensures.value) ∙ frames_none c.deref.result.now (sym c.in-None.ensures.value) in
    subst (λ (st : List m.Frame). (IsTrue false → TakesByte st c.args.byte) × (TakesByte st c.args.byte → IsTrue false)) (sym same) (λ t. cc (t), λ none. absurd none)
