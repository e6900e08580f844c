use Rattle.std.proofs.Common.{◌≡◌, ◌%◌, ◌/◌, ◌<◌, ◌∙◌, ℕ, Bool, true, ltb, length, sym, arith}
use Rattle.std.proofs.lemmas.Bool.{ltb-true, eqb-true}
use Rattle.ml_ratio.specs.Fraction.{value_of}
use Rattle.ml_conflict.proofs.Blocks.{block_away}
use Rattle.ml_conflict.proofs.strip.Field.is_away.Goals as goal
use Rattle.ml_conflict.proofs.strip.Field.is_away.Goals.{then-at-eq0, else-at-eq0}

lt_of : {b many count : ℕ} {t : Bool} → t ≡ ltb b many → t ≡ true → many ≡ count → b < count
lt_of is told same = rw (← same) (ltb-true _ _ (sym is ∙ told))

pub returns-then-block-len : goal.returns-then-block-len
returns-then-block-len c is labels are until few until_in =
    elim c.if-at-eq0.branch [
      | then-at-eq0 w ↦
          let begins : c.args.at % 8 ≡ 0 = w.if-at-eq0.true in
          let there : c.args.at / 8 < length c.args.self.now.blocks.items = (let lt = lt_of w.value-is c.if-block-len.true w.len.ensures in omega arith) in
          block_away labels c.args.self.now.strips.items c.args.area.now (value_of c.args.bound.now) c.args.self.now.blocks.items c.args.at c.index.result.now are
          c.requires.blocks begins there (sym c.index.ensures) (c.is_away.ensures is) until few until_in
      | else-at-eq0 w ↦ absurd (w.if-at-eq0.false (eqb-true _ _ (sym w.value-is ∙ c.if-block-len.true)))
    ]
