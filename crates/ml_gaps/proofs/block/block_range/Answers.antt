use Rattle.std.proofs.Common.{suc, ◌<◌, ◌++◌, List, length, slice_index_or, take, drop, pos, arith, ap, sym, subst}
use Rattle.std.proofs.lemmas.List.{take_all}
use Rattle.std.specs.Prelude.{Any}
use Rattle.ml_ratio.specs.Fraction.{Fraction, value_of, IsLess}
use Rattle.ml_ratio.proofs.lemmas.Fractions.{less_at_most}
use Rattle.ml_cone.specs.Near.{AreApart}
use Rattle.ml_cone.specs.Overlap.{Overlap}
use Rattle.ml_cone.specs.declared.label.BoxPx.{BoxPx}
use Rattle.ml_cone.specs.declared.label.Label.{Label}
use Rattle.ml_gaps.specs.Pairs.{AddsPiecesOf, IsPairInRange, pairs_with, pairs_from, box_pairs_of}
use Rattle.ml_gaps.proofs.Pairing.{none_added, nothing_added, both_added, map_added, any_pair, row_more, row_cut}
use Rattle.ml_gaps.proofs.Results.{on_err}
use Rattle.ml_gaps.proofs.block.block_range.Goals as goal

-- some box, for lists that have one
some_box : BoxPx
some_box = record { l = pos 0; b = pos 0; r = pos 0; t = pos 0 }

pub returns-then-not-is_less-clause-ok : goal.returns-then-not-is_less-clause-ok
unfolding IsPairInRange
returns-then-not-is_less-clause-ok c =
    nothing_added (IsPairInRange c.args.low.now c.args.high.now (value_of c.args.from) (value_of c.args.until)) (box_pairs_of c.args.low.now c.args.high.now) c.args.out.now
    (λ s any.
    let h = any.4 in
    let beyond : IsLess s s = less_at_most s (value_of c.args.from) s (less_at_most s (value_of c.args.until) (value_of c.args.from) h.1.1 c.if-not-is_less.ensures) h.1.0 in
    omega arith)

-- labels that are apart up to the end of the range overlap nowhere in it
apart_none : (low high : Label) (from until : Fraction) → AreApart low high until.num until.den → (s : Fraction) → ¬ (Any (λ pair. IsPairInRange low high from until pair s) (box_pairs_of low high))
unfolding IsPairInRange Overlap
apart_none low high from until apart s any =
    let row = (any_pair (λ pair. IsPairInRange low high from until pair s) low.boxes high.boxes).0 any in
    let one = row.4 in
    let both = one.4 in
    let below : IsLess s until = both.1.1 in
    apart s (omega arith) (row.0, row.1, row.2, row.3, (one.0, one.1, one.2, one.3, both.2))

pub returns-then-are_apart-clause-ok : goal.returns-then-are_apart-clause-ok
returns-then-are_apart-clause-ok c =
    nothing_added (IsPairInRange c.args.low.now c.args.high.now (value_of c.args.from) (value_of c.args.until)) (box_pairs_of c.args.low.now c.args.high.now) c.args.out.now
    (apart_none c.args.low.now c.args.high.now (value_of c.args.from) (value_of c.args.until) (rw (c.of_ratio.ensures.num, c.of_ratio.ensures.den) at c.if-are_apart.ensures))

pub loop-i-init : goal.loop-i-init
loop-i-init c = none_added (IsPairInRange c.args.low.now c.args.high.now (value_of c.args.from) (value_of c.args.until)) c.args.out.now

pub loop-i-preserved : goal.loop-i-preserved
loop-i-preserved c =
    let low = c.args.low.now in
    let high = c.args.high.now in
    let S = IsPairInRange low high (value_of c.args.from) (value_of c.args.until) in
    let i = c.loop-i.i in
    let lt : i < length low.boxes = omega (arith, ap length c.boxes.ensures) in
    let p : BoxPx = slice_index_or low.boxes i some_box in
    let row = map_added S (λ q. (p, q)) high.boxes c.loop-i.out c.block_row.new.out (c.in_ok-block_row.ensures.ok some_box) in
    subst (λ (l : List (BoxPx × BoxPx)). AddsPiecesOf S l c.args.out.now c.block_row.new.out) (sym (row_more low.boxes high.boxes i some_box lt))
    (both_added S (pairs_from (take i low.boxes) high.boxes) (pairs_with high.boxes p) c.args.out.now c.loop-i.out c.block_row.new.out c.loop-i.invariant row)

pub returns-in_err-block_row-clause-err : goal.returns-in_err-block_row-clause-err
returns-in_err-block_row-clause-err c =
    let low = c.args.low.now in
    let high = c.args.high.now in
    let S = IsPairInRange low high (value_of c.args.from) (value_of c.args.until) in
    let i = c.loop-i.i in
    let lt : i < length low.boxes = omega (arith, ap length c.boxes.ensures) in
    let p : BoxPx = slice_index_or low.boxes i some_box in
    let first = c.in_err-block_row.ensures.err some_box in
    let row = map_added S (λ q. (p, q)) first.front c.loop-i.out c.block_row.new.out first.adds in
    on_err c.from_residual.result _ (record {
      front = pairs_from (take i low.boxes) high.boxes ++ pairs_with first.front p;
      back = pairs_with first.back p ++ pairs_from (drop (suc i) low.boxes) high.boxes;
      parts = row_cut low.boxes high.boxes first.front first.back i some_box lt first.parts;
      adds = both_added S (pairs_from (take i low.boxes) high.boxes) (pairs_with first.front p) c.args.out.now c.loop-i.out c.block_row.new.out c.loop-i.invariant row;
    })

pub returns-clause-ok : goal.returns-clause-ok
returns-clause-ok c =
    let low = c.args.low.now in
    let high = c.args.high.now in
    let S = IsPairInRange low high (value_of c.args.from) (value_of c.args.until) in
    subst (λ (l : List BoxPx). AddsPiecesOf S (pairs_from l high.boxes) c.args.out.now c.loop-i.out) (take_all c.loop-i.i low.boxes (omega (arith, ap length c.boxes.ensures))) c.loop-i.invariant
