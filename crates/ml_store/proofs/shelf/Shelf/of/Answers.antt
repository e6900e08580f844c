use Rattle.std.proofs.Common.{arith}
use Rattle.std.specs.Prelude.{box_value}
use Rattle.std.proofs.lemmas.List.{length-map}
use Rattle.ml_store.specs.Boxes.{unboxed}
use Rattle.ml_store.proofs.Shelves.{left_fewer, shelved_in_turn}
use Rattle.ml_store.proofs.shelf.Shelf.of.Goals as goal

pub loop-row-preserved-in-Some : goal.loop-row-preserved-in-Some
loop-row-preserved-in-Some c =
    left_fewer c.args.rows.items c.loop-row.rows.items c.pop.new.self.items c.loop-row.places.items c.in-Some.row c.len.result c.requires.few c.loop-row.invariant
    c.in-Some.ensures.items (omega (arith, c.len.ensures))

pub loop-row-preserved : goal.loop-row-preserved
loop-row-preserved c =
    left_fewer c.args.rows.items c.loop-row.rows.items c.pop.new.self.items c.loop-row.places.items c.in-Some.row c.len.result c.requires.few c.loop-row.invariant
    c.in-Some.ensures.items (omega (arith, c.len.ensures))

pub returns : goal.returns
returns c =
    let inv = c.loop-row.invariant in
    let boxed = length-map c.args.rows.items box_value in
    let none = rw c.in_default.is at c.pop.ensures.cases in
    shelved_in_turn _ (unboxed c.args.rows.items) c.requires.in_turn (λ k d lt. inv.3 k d (omega (arith, none.0)) (omega arith))
