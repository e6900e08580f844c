use Rattle.std.proofs.Common.{◌≡◌, ◌∙◌, ap, sym, ◌+◌, ◌<◌, arith, [], ◌∷◌, length, drop}
use Rattle.std.proofs.lemmas.List.{drop_more}
use Rattle.ml_store.specs.Moved.{moved_rows, moved_pairs}
use Rattle.ml_store.specs.Pairs.{pair_count}
use Rattle.ml_store.specs.declared.moved.Moved.{Moved}
use Rattle.ml_store.proofs.Renewing.{moved_cons, rows_none, differ_all_moved}
use Rattle.ml_store.proofs.lemmas.Moved.{pairs_none}
use Rattle.ml_store.proofs.moving.write_pairs.Goals as goal

pub write_one_pair-requires-clause-room : goal.write_one_pair-requires-clause-room
write_one_pair-requires-clause-room c =
    let i = c.loop-m.m-index in
    let moved = c.args.moved.now in
    let m : Moved = c.m-item.result in
    let lt : i < length moved = omega (arith, c.loop-m-test.true) in
    let next : drop i moved ≡ m ∷ drop (i + 1) moved = drop_more moved i m lt ∙ ap (λ (x : Moved). x ∷ drop (i + 1) moved) (sym c.m-item.is) in
    let rest : moved_pairs (drop i moved) ≡ pair_count m.slot.blocker + moved_pairs (drop (i + 1) moved) = ap moved_pairs next in
    let was = c.loop-m.invariant.blocks in
    let room = c.requires.room in
    omega arith

pub loop-m-preserved : goal.loop-m-preserved
loop-m-preserved c =
    let i = c.loop-m.m-index in
    let moved = c.args.moved.now in
    let m : Moved = c.m-item.result in
    let lt : i < length moved = omega (arith, c.loop-m-test.true) in
    let next : drop i moved ≡ m ∷ drop (i + 1) moved = drop_more moved i m lt ∙ ap (λ (x : Moved). x ∷ drop (i + 1) moved) (sym c.m-item.is) in
    let rest : moved_pairs (drop i moved) ≡ pair_count m.slot.blocker + moved_pairs (drop (i + 1) moved) = ap moved_pairs next in
    let was = c.loop-m.invariant.blocks in
    let now = c.write_one_pair.ensures.blocks in
    record {
      differ = rw c.write_one_pair.ensures.rows (differ_all_moved (m ∷ []) c.loop-m.table.rows c.loop-m.invariant.differ);
      paired = c.write_one_pair.ensures.paired;
      rows = ap (moved_rows (drop (i + 1) moved)) c.write_one_pair.ensures.rows ∙ sym (moved_cons m (drop (i + 1) moved) c.loop-m.table.rows)
          ∙ ap (λ ms. moved_rows ms c.loop-m.table.rows) (sym next) ∙ c.loop-m.invariant.rows;
      labels = c.write_one_pair.ensures.labels ∙ c.loop-m.invariant.labels;
      blocks = omega arith;
    }

pub returns-clause-rows : goal.returns-clause-rows
returns-clause-rows c = sym (rows_none c.args.moved.now c.loop-m.m-index c.loop-m.table.rows (omega arith)) ∙ c.loop-m.invariant.rows

pub returns-clause-blocks : goal.returns-clause-blocks
returns-clause-blocks c =
    let none = pairs_none c.args.moved.now c.loop-m.m-index (omega arith) in
    let was = c.loop-m.invariant.blocks in
    omega arith
