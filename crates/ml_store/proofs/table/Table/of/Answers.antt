use Rattle.std.proofs.Common.{◌≡◌, length, arith, ap}
use Rattle.std.proofs.lemmas.List.{length-map}
use Rattle.std.specs.Prelude.{box_value}
use Rattle.ml_store.specs.Boxes.{unboxed}
use Rattle.ml_store.proofs.Fresh.{differ_in_turn}
use Rattle.ml_store.proofs.Listing.{listed_in_turn, listed_differ}
use Rattle.ml_store.proofs.table.Table.of.Goals as goal

pub of-requires-clause-first : goal.of-requires-clause-first
of-requires-clause-first c n =
    let rows = unboxed c.args.rows.items in
    let boxed = length-map c.args.rows.items box_value in
    let many : length c.in_ok-sorted.sorted.items ≡ length rows = (let n = c.in_ok-sorted.ensures.len in let m = ap length c.as_slice.ensures.value in omega arith) in
    rw c.as_slice-2.ensures.value (listed_in_turn rows c.in_ok-sorted.sorted.items n c.requires.in_turn (rw c.as_slice.ensures.value at c.in_ok-sorted.ensures.by_name) many)

pub of-requires-clause-differ : goal.of-requires-clause-differ
of-requires-clause-differ c =
    let rows = unboxed c.args.rows.items in
    rw c.as_slice-2.ensures.value (listed_differ rows c.in_ok-sorted.sorted.items (differ_in_turn rows c.requires.in_turn) (rw c.as_slice.ensures.value at c.in_ok-sorted.ensures.by_name))
