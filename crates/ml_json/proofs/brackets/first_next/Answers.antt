use Rattle.std.proofs.Common.{◌≡◌, ◌==◌, ◌∷◌, false, ◌∙◌, ap, subst, arith, sym}
use Rattle.std.proofs.lemmas.Bool.Decides.{nat_tests}
use Rattle.ml_json.specs.Grammar.{is_space}
use Rattle.ml_json.specs.Tree.{none}
use Rattle.ml_json.specs.Machine as m
use Rattle.ml_json.specs.Machine.{open_of, State}
use Rattle.ml_json.specs.Lent.{lents_view}
use Rattle.ml_json.specs.State.{frames_of, Steps}
use Rattle.ml_json.proofs.FrameLemmas.{frames_length, frames_push}
use Rattle.ml_json.proofs.ViewLemmas.{empty_list}
use Rattle.ml_json.proofs.brackets.first_next.Goals as goal

pub returns-then-byte-eq93 : goal.returns-then-byte-eq93
unfolding open_of
returns-then-byte-eq93 c =
    let sp : is_space c.args.byte ≡ false = cc in (
      rw (sp, c.if-byte-eq93.true) (ap (λ t. m.to (m.after t) (frames_of c.args.frames.now.items)) (sym (empty_list c.new.result c.new.ensures.items))),
      omega (arith, frames_length c.args.frames.now.items),
    )

pub returns : goal.returns
returns c =
    let sp : is_space c.args.byte ≡ false = cc in
    let e : frames_of c.push.new.self.items ≡ m.in_list none ∷ frames_of c.args.frames.now.items =
    ap frames_of c.in_ok-push.ensures.items ∙ frames_push c.args.frames.now.items _ ∙ ap (λ vs. m.in_list (lents_view vs) ∷ frames_of c.args.frames.now.items) c.new-2.ensures.items in
    let nb : (c.args.byte == 93) ≡ false = grind (arith, nat_tests) in
    rw (sp, nb) (subst (λ st. Steps c.open_value.result c.push.new.self.items (m.open_step st c.args.byte)) e c.open_value.ensures)
