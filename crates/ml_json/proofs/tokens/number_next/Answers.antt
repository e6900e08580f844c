use Rattle.std.proofs.Common.{◌≡◌, ◌∙◌, sym, ap, arith, string_bytes, Some, ◌++◌, ◌∷◌, []}
use Rattle.ml_json.specs.Machine as m
use Rattle.ml_json.specs.Machine.{open_of, go_on}
use Rattle.ml_json.specs.State.{part_of, frames_of}
use Rattle.ml_json.proofs.FrameLemmas.{frames_length}
use Rattle.ml_json.proofs.NumberLemmas.{go_on_ascii}
use Rattle.ml_json.proofs.tokens.number_next.Goals as goal

pub returns-in_ok-push-in-Some : goal.returns-in_ok-push-in-Some
unfolding open_of
returns-in_ok-push-in-Some c =
    let y : go_on (part_of c.args.part) c.args.byte ≡ Some (part_of c.in-Some.next) = sym c.in-Some.ensures in
    let x = c.in_ok-push-in-Some.ensures in
    let e : string_bytes c.push.new.self ≡ string_bytes c.args.text ++ c.args.byte ∷ [] =
    x.bytes ∙ ap (λ s. string_bytes c.args.text ++ s) (x.ascii (go_on_ascii (part_of c.args.part) (part_of c.in-Some.next) c.args.byte y)) in (
      ap (m.number_step (part_of c.args.part) (string_bytes c.args.text) (frames_of c.args.frames.now.items) c.args.byte) y
          ∙ ap (λ s. m.to (m.number (part_of c.in-Some.next) s) (frames_of c.args.frames.now.items)) (sym e),
      omega (arith, frames_length c.args.frames.now.items),
    )
