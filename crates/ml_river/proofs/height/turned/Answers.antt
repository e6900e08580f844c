use Rattle.std.proofs.Common.{rules, ◌≡◌, ℤ, Vec, Global, ap, ◌∙◌, true, false, arith, w64, FitsSigned, get_or}
use Rattle.std.specs.Prelude.{int_lt}
use Rattle.std.proofs.lemmas.Int.{to_z-of_z}
use Rattle.ml_ratio.specs.declared.geometry.Pos.{Pos}
use Rattle.ml_river.specs.Run.{x_at}
use Rattle.ml_river.proofs.StepLemmas.{x_of}
use Rattle.ml_river.proofs.TurnLemmas.{turned_back, turned_kept}
use Rattle.ml_river.proofs.height.turned.Goals as goal
use Rattle.ml_river.proofs.height.turned.Goals.{then-line-to, else-line-to}

pub returns : goal.returns
returns c =
    let fb : FitsSigned w64 (get_or c.args.line.now c.args.to c.index-line-to.result).x = search rules in
    let fa : FitsSigned w64 (get_or c.args.line.now c.args.from c.index-line-from.result).x = search rules in
    let b = x_of c.args.line.now c.args.to c.index-line-to.result c.requires.there in
    let a = x_of c.args.line.now c.args.from c.index-line-from.result (omega arith) in
    let same : int_lt (x_at c.args.line.now c.args.to) (x_at c.args.line.now c.args.from)
    ≡ int_lt (get_or c.args.line.now c.args.to c.index-line-to.result).x (get_or c.args.line.now c.args.from c.index-line-from.result).x =
    ap (λ (z : ℤ). int_lt z (x_at c.args.line.now c.args.from)) b ∙ ap (λ (z : ℤ). int_lt (get_or c.args.line.now c.args.to c.index-line-to.result).x z) a in
    let copied = c.in_ok-run.ensures.items in
    elim c.if-line-to.branch [
      | then-line-to w ↦
          let t : int_lt (get_or c.args.line.now c.args.to c.index-line-to.result).x (get_or c.args.line.now c.args.from c.index-line-from.result).x ≡ true = simp to_z-of_z at w.if-line-to.true in
          ap (λ (v : Vec Pos Global). v.items) w.run-is ∙ turned_back c.args.line.now c.args.from c.args.to c.in_ok-run.run'.items w.reverse.new.self.items copied w.reverse.ensures.items (same ∙ t)
      | else-line-to w ↦
          let t : int_lt (get_or c.args.line.now c.args.to c.index-line-to.result).x (get_or c.args.line.now c.args.from c.index-line-from.result).x ≡ false = simp to_z-of_z at w.if-line-to.false in
          ap (λ (v : Vec Pos Global). v.items) w.run-is ∙ turned_kept c.args.line.now c.args.from c.args.to c.in_ok-run.run'.items copied (same ∙ t)
    ]
