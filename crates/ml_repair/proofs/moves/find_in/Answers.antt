use Rattle.std.proofs.Common.{◌≡◌, ◌∙◌, sym, ap, arith, get_or, inl, inr}
use Rattle.std.proofs.lemmas.Bool.{cases_lt}
use Rattle.std.proofs.lemmas.List.{get_or-map}
use Rattle.ml_store.specs.declared.moved.Moved.{Moved}
use Rattle.ml_repair.specs.Moves.{numbers_of}
use Rattle.ml_repair.proofs.Moving.{found_here, found_nowhere}
use Rattle.ml_repair.proofs.moves.find_in.Goals as goal

pub returns-then-moved-k : goal.returns-then-moved-k
returns-then-moved-k c =
    let moved = c.args.moved.now in
    let m : Moved = c.index-moved-k.result in
    let here : get_or (numbers_of moved) c.loop-k.k 0 ≡ c.args.number =
    get_or-map (λ (x : Moved). x.number) moved c.loop-k.k m 0 c.loop-k-test.true ∙ c.if-moved-k.true in
    found_here moved c.args.number c.loop-k.k c.requires c.loop-k-test.true here

pub loop-k-preserved : goal.loop-k-preserved
loop-k-preserved c j lt same =
    let moved = c.args.moved.now in
    let m : Moved = c.index-moved-k.result in
    elim (cases_lt j c.loop-k.k) [
      | inl before ↦ c.loop-k.invariant j before same
      | inr now ↦
          let z : j ≡ c.loop-k.k = omega arith in
          let here : get_or (numbers_of moved) c.loop-k.k 0 ≡ c.args.number = ap (λ k. get_or (numbers_of moved) k 0) (sym z) ∙ same in
          absurd (c.if-moved-k.false (sym (get_or-map (λ (x : Moved). x.number) moved c.loop-k.k m 0 c.loop-k-test.true) ∙ here))
    ]

pub returns : goal.returns
returns c = found_nowhere c.args.moved.now c.args.number (λ k lt. c.loop-k.invariant k (omega arith))
