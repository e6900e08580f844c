use Rattle.std.proofs.Common.{◌≡◌, ◌≤◌, ◌-◌, [], List, length, take, drop, get_or, refl, sym, ap, subst, arith}
use Rattle.ml_json.specs.Machine as m
use Rattle.ml_json.specs.Machine.{Frame, State, step, open_of}
use Rattle.ml_json.specs.State.{mode_of, frames_of, Stops}
use Rattle.ml_json.specs.Lent.{lent_of}
use Rattle.ml_json.specs.declared.state.Stop.{Stop}
use Rattle.ml_json.proofs.EndLemmas.{no_frames}
use Rattle.ml_json.proofs.LeapLemmas.{starts, passes_shallow}
use Rattle.ml_json.proofs.Places.{Stands, stands_start, stands_passed, not_passed, stands_after, stops_ahead, deep_ahead, all_stood, is_text, ends_early}
use Rattle.ml_json.proofs.reader.scan.Goals as goal

pub loop-rest-init : goal.loop-rest-init
unfolding open_of
loop-rest-init c =
    let e : frames_of c.new-frames.result.items ≡ [] = no_frames c.new-frames.result.items (ap length c.new-frames.ensures.items) in
    let start : (m.begin, []) ≡ (m.begin, frames_of c.new-frames.result.items) = ap (λ (st : List Frame). (m.begin, st)) (sym e) in
    record {
      stands = stands_start c.args.bytes.now (m.begin, frames_of c.new-frames.result.items) start;
      shallow = subst (λ (st : List Frame). length st ≤ 64) (sym e) (omega arith);
    }

pub loop-rest-preserved-then-left-rest : goal.loop-rest-preserved-then-left-rest
loop-rest-preserved-then-left-rest c = record {
  stands = stands_passed c.args.bytes.now c.in-Ok.ensures c.loop-rest.invariant.stands;
  shallow = passes_shallow c.loop-rest.invariant.shallow c.in-Ok.ensures;
}

pub advance-requires : goal.advance-requires
advance-requires c = passes_shallow c.loop-rest.invariant.shallow c.in-Ok.ensures

pub loop-rest-preserved : goal.loop-rest-preserved
loop-rest-preserved c =
    let rest = c.loop-rest.rest.now in
    let z : State = (mode_of c.leap.new.mode, frames_of c.leap.new.frames.items) in
    let y : State = (mode_of c.advance.new.mode, frames_of c.advance.new.frames.items) in
    let s = subst (Stands c.args.bytes.now rest) (not_passed c.in-Ok.ensures c.if-left-rest.false).0 c.loop-rest.invariant.stands in
    let h = c.in-Ok-advance.ensures in
    record {
      stands = stands_after c.args.bytes.now rest (get_or rest 0 0) (take (length rest - 1) (drop 1 rest)) z y (starts rest (get_or rest 0 0) c.in-len1-up.len_at_least refl) s h.0 h.1;
      shallow = h.1;
    }

pub returns-in-Err-NotJson : goal.returns-in-Err-NotJson
returns-in-Err-NotJson c =
    let rest = c.loop-rest.rest.now in
    let z : State = (mode_of c.leap.new.mode, frames_of c.leap.new.frames.items) in
    let s = subst (Stands c.args.bytes.now rest) (not_passed c.in-Ok.ensures c.if-left-rest.false).0 c.loop-rest.invariant.stands in
    let h = subst (λ (e : Stop). Stops e (step z.0 z.1 (get_or rest 0 0))) c.in-Err-NotJson.field-0-is c.in-Err-NotJson.ensures in
    stops_ahead c.args.bytes.now rest (get_or rest 0 0) (take (length rest - 1) (drop 1 rest)) z (starts rest (get_or rest 0 0) c.in-len1-up.len_at_least refl) s h

pub returns-in-Err-Deep : goal.returns-in-Err-Deep
returns-in-Err-Deep c =
    let rest = c.loop-rest.rest.now in
    let z : State = (mode_of c.leap.new.mode, frames_of c.leap.new.frames.items) in
    let s = subst (Stands c.args.bytes.now rest) (not_passed c.in-Ok.ensures c.if-left-rest.false).0 c.loop-rest.invariant.stands in
    let h = subst (λ (e : Stop). Stops e (step z.0 z.1 (get_or rest 0 0))) c.in-Err-Deep.field-0-is c.in-Err-Deep.ensures in
    deep_ahead c.args.bytes.now rest (get_or rest 0 0) (take (length rest - 1) (drop 1 rest)) z h.0 (starts rest (get_or rest 0 0) c.in-len1-up.len_at_least refl) s h.1 h.2

pub returns-in-Some : goal.returns-in-Some
returns-in-Some c =
    is_text c.args.bytes.now (mode_of c.loop-rest.mode, frames_of c.loop-rest.frames.items) (lent_of c.in-Some.value)
    (all_stood c.args.bytes.now c.loop-rest.rest.now _ c.loop-rest.invariant.stands c.in_default.len_below) (sym c.in-Some.ensures)

pub returns-in-None : goal.returns-in-None
returns-in-None c =
    ends_early c.args.bytes.now (mode_of c.loop-rest.mode, frames_of c.loop-rest.frames.items)
    (all_stood c.args.bytes.now c.loop-rest.rest.now _ c.loop-rest.invariant.stands c.in_default.len_below) (sym c.in-None.ensures)
