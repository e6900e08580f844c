use Rattle.std.proofs.Common.{◌≡◌, ◌∙◌, ◌<◌, arith, get_or, length, sym, ℕ, ap}
use Rattle.ml_store.specs.declared.row.Row.{Row}
use Rattle.ml_repair.specs.Moves.{numbers_of}
use Rattle.ml_store.specs.declared.moved.Moved.{Moved}
use Rattle.std.proofs.lemmas.List.{get_or-map}
use Rattle.ml_repair.proofs.Noting.{noted_fresh, noted_more, noted_all}
use Rattle.ml_repair.proofs.changes.stay_changes.Goals as goal
use Rattle.ml_repair.proofs.changes.stay_changes.Goals.{in-Some+in_ok-push_moved-in-Some, in-None}

pub loop-m-preserved : goal.loop-m-preserved
loop-m-preserved c =
    let rows = c.args.roster.now in
    let moved = c.args.moves.now in
    let k : ℕ = c.loop-m.m-index in
    let m : Moved = c.m-item.result in
    let len : length c.as_slice-moved.result.now ≡ length moved = ap length c.as_slice-moved.ensures.moved in
    let lt : k < length moved = omega arith in
    let is : m ≡ get_or c.as_slice-moved.result.now k m = c.m-item.is in
    let read : get_or moved k m ≡ m = ap (λ ms. get_or ms k m) (sym c.as_slice-moved.ensures.moved) ∙ sym is in
    elim c.match-place_of.branch [
      | in-Some+in_ok-push_moved-in-Some w ↦
          let r : Row = w.row.result.now in
          rw w.out-is (noted_more rows moved k c.loop-m.out.items c.loop-m.invariant m r w.push_moved.new.out.items c.as_slice-moved.ensures.differ lt read w.row.ensures.numbered.differ c.requires
          (w.in-Some.at, w.in-Some.ensures.place.0, w.row.ensures.row r) (sym (w.row.ensures.number) ∙ w.in-Some.ensures.place.1) w.in_ok-push_moved-in-Some.ensures)
      | in-None w ↦
          let number : get_or (numbers_of moved) k 0 ≡ m.number = get_or-map (λ (x : Moved). x.number) moved k m 0 lt ∙ ap (λ (x : Moved). x.number) read in
          rw w.out-is (noted_fresh rows moved k c.loop-m.out.items c.loop-m.invariant (rw number w.in-None.ensures.place))
    ]

pub returns-clause-are : goal.returns-clause-are
returns-clause-are c =
    let len : length c.as_slice-moved.result.now ≡ length c.args.moves.now = ap length c.as_slice-moved.ensures.moved in
    noted_all c.args.roster.now c.args.moves.now c.loop-m.out.items c.loop-m.m-index (omega arith) c.loop-m.invariant
