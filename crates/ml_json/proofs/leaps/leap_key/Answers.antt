use Rattle.std.proofs.Common.{◌≡◌, ◌∷◌, ◌∙◌, List, ap, sym, subst, inl, inr}
use Rattle.ml_json.specs.Machine as m
use Rattle.ml_json.specs.State.{mode_of, frames_of, members_view}
use Rattle.ml_json.specs.Leaps.{PlainString, Passes, here}
use Rattle.ml_json.specs.declared.state.Mode.{Mode}
use Rattle.ml_json.proofs.FrameLemmas.{frames_push}
use Rattle.ml_json.proofs.LeapLemmas.{TakesKey, key_leaps}
use Rattle.ml_json.proofs.leaps.leap_key.Goals.{in-FirstKey, in-Key}
use Rattle.ml_json.proofs.leaps.leap_key.Goals as goal

pub returns-in_default : goal.returns-in_default
returns-in_default c = here

pub returns-in_default-behind : goal.returns-in_default-behind
returns-in_default-behind c = here

pub returns-in_default-replace : goal.returns-in_default-replace
returns-in_default-replace c =
    subst (λ (x : Mode). Passes (mode_of c.args.mode.now, frames_of c.args.frames.now.items) c.args.bytes.now (mode_of x, frames_of c.args.frames.now.items) c.args.bytes.now)
    (sym c.replace.ensures.value) here

pub returns : goal.returns
returns c =
    let st = frames_of c.args.frames.now.items in
    let n = mode_of c.args.mode.now in
    let ps = members_view c.match-replace.members in
    let was : c.args.mode.now ≡ c.replace.result = sym c.replace.ensures.value in
    let takes : TakesKey n ps = elim c.match-replace.branch [
      | in-FirstKey w ↦ inl (ap mode_of (was ∙ w.in-FirstKey.is), ap members_view w.members-is ∙ w.no_members-members.ensures)
      | in-Key w ↦ inr (ap mode_of (was ∙ w.in-Key.is) ∙ ap (λ x. m.key (members_view x)) (sym w.members-is))
    ] in
    let rest = c.in-Some-behind.rest.now in
    let key = subst (PlainString c.in-Some.key c.args.bytes.now) c.in-Some-behind.ensures c.in-Some.ensures in
    let pushed : frames_of c.push.new.self.items ≡ m.at_key ps c.in-Some.key ∷ st = ap frames_of c.in_ok-push.ensures.items ∙ frames_push c.args.frames.now.items _ in
    let passes = key_leaps n ps st takes c.requires c.in-Some.key c.args.bytes.now rest key in
    subst (λ (x : Mode). Passes (n, st) c.args.bytes.now (mode_of x, frames_of c.push.new.self.items) rest) (sym c.replace.ensures.after)
    (subst (λ (su : List m.Frame). Passes (n, st) c.args.bytes.now (m.value, su) rest) (sym pushed) passes)
