use Rattle.std.proofs.lemmas.List.Sorted.{IsPermutation-map}
use Rattle.ml_grid.specs.Marks.{entry_marked}
use Rattle.ml_grid.proofs.Marking.{marked_in_order}
use Rattle.ml_grid.proofs.grid.Grid.of_marks.Goals as goal

pub of_read-requires : goal.of_read-requires
of_read-requires c =
    rw c.as_slice.ensures.value
    (record { rising = marked_in_order c.args.ends.now c.args.marks.items c.in_ok-sorted.sorted.items c.requires.apart c.in_ok-sorted.ensures.same c.in_ok-sorted.ensures.ascending })

pub returns-clause-entries : goal.returns-clause-entries
returns-clause-entries c =
    rw (c.in_ok-tree.ensures.entries, c.as_slice.ensures.value) (IsPermutation-map (entry_marked c.args.ends.now) c.args.marks.items c.in_ok-sorted.sorted.items c.in_ok-sorted.ensures.same)
