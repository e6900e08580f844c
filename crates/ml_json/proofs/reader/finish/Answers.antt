use Rattle.std.proofs.Common.{◌≡◌, ◌∙◌, sym, ap, refl, true, Some, length, arith}
use Rattle.ml_json.specs.Machine.{may_end, finish}
use Rattle.ml_json.specs.State.{mode_of, part_of}
use Rattle.ml_json.specs.Tree.{num}
use Rattle.ml_json.proofs.ViewLemmas.{tree_num}
use Rattle.ml_json.proofs.EndLemmas.{unfinished, no_frames}
use Rattle.ml_json.proofs.reader.finish.Goals as goal

pub returns-then-not-is_empty : goal.returns-then-not-is_empty
returns-then-not-is_empty c = sym (unfinished (mode_of c.args.mode) c.args.frames.items (grind arith))

pub returns-in-After : goal.returns-in-After
returns-in-After c =
    let none : length c.args.frames.items ≡ 0 = grind arith in
    sym (ap (finish (mode_of c.args.mode)) (no_frames c.args.frames.items none) ∙ rw c.in-After.is refl)

pub returns-then-may_end : goal.returns-then-may_end
returns-then-may_end c =
    let none : length c.args.frames.items ≡ 0 = grind arith in
    let e : may_end (part_of c.in-Number.part) ≡ true = cc in
    sym (ap (finish (mode_of c.args.mode)) (no_frames c.args.frames.items none)
    ∙ rw (c.in-Number.is, e) (ap (λ s. Some (num s)) (sym c.of_string.ensures) ∙ ap (λ t. Some t) (sym (tree_num c.of_string.result))))
