use Rattle.std.proofs.Common.{◌∙◌, arith}
use Rattle.std.proofs.lemmas.List.{length-map}
use Rattle.std.specs.Prelude.{box_value}
use Rattle.ml_store.specs.Boxes.{unboxed}
use Rattle.ml_store.proofs.Shelves.{rows_are, in_place, turn_numbers}
use Rattle.ml_store.proofs.lemmas.Numbered.{numbered_in_turn}
use Rattle.ml_store.proofs.rows.Rows.of.Goals as goal

pub invariant_of-result : goal.invariant_of-result
invariant_of-result c =
    let rows = unboxed c.args.rows.items in
    let boxed = length-map c.args.rows.items box_value in
    let few = c.requires.few in
    let e = turn_numbers rows c.in_ok-numbers.numbers (c.in_ok-numbers.ensures.count ∙ omega arith) (λ k lt. c.in_ok-numbers.ensures.ascending k (omega arith)) c.requires.in_turn in
    in_place c.in_ok-shelf.shelf c.in_ok-numbers.numbers rows c.in_ok-shelf.ensures e (numbered_in_turn rows (omega arith) c.requires.in_turn)

pub returns : goal.returns
returns c =
    let rows = unboxed c.args.rows.items in
    let boxed = length-map c.args.rows.items box_value in
    let few = c.requires.few in
    let e = turn_numbers rows c.in_ok-numbers.numbers (c.in_ok-numbers.ensures.count ∙ omega arith) (λ k lt. c.in_ok-numbers.ensures.ascending k (omega arith)) c.requires.in_turn in
    rows_are c.in_ok-shelf.shelf c.in_ok-numbers.numbers rows c.in_ok-shelf.ensures e
