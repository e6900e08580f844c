use Rattle.std.proofs.Common.{◌≡◌, ◌==◌, ◌∙◌, false, true, sym, ap, arith}
use Rattle.std.proofs.lemmas.Bool.Decides.{nat_tests}
use Rattle.ml_json.specs.Grammar.{is_space}
use Rattle.ml_json.specs.Machine as m
use Rattle.ml_json.specs.Machine.{open_of}
use Rattle.ml_json.specs.State.{frames_of}
use Rattle.ml_json.proofs.FrameLemmas.{frames_length, frames_push}
use Rattle.ml_json.proofs.StepLemmas.{length_last}
use Rattle.ml_json.proofs.members.colon_next.Goals as goal

pub returns : goal.returns
unfolding open_of
returns c =
    let sp : is_space c.args.byte ≡ false = cc in
    let b : (c.args.byte == 58) ≡ true = grind (arith, nat_tests) in
    let e = ap frames_of c.in_ok-push.ensures.items ∙ frames_push c.args.frames.now.items _ in
    (rw (sp, b) (ap (λ st. m.to m.value st) (sym e)), omega (arith, frames_length c.push.new.self.items, length_last c.push.new.self.items c.args.frames.now.items _ c.in_ok-push.ensures.items))
