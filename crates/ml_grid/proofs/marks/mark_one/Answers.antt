use Rattle.ml_grid.proofs.Marking.{apart_more, adds_more}
use Rattle.ml_grid.proofs.marks.mark_one.Goals as goal

pub returns-clause-apart : goal.returns-clause-apart
returns-clause-apart c =
    rw c.in_ok-push.ensures.items
    (apart_more c.args._ends.now c.args.marks.now.items c.mark_of.result c.args.cell c.args.number c.mark_of.ensures.cell c.mark_of.ensures.number c.requires.apart c.requires.new)

pub returns-clause-entries : goal.returns-clause-entries
returns-clause-entries c =
    rw c.in_ok-push.ensures.items (adds_more c.args._ends.now c.args.marks.now.items c.mark_of.result c.args.cell c.args.number c.mark_of.ensures.cell c.mark_of.ensures.number)
