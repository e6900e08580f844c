use Rattle.ml_editor.specs.Changing.{ranged}
use Rattle.ml_editor.proofs.Changing.{no_change, one_change}
use Rattle.ml_editor.proofs.changes.change_of.Goals as goal

pub returns-then-same_held : goal.returns-then-same_held
returns-then-same_held c =
    no_change c.args.old.now.rows c.args.new.now.rows c.requires.old c.requires.new c.args.id.now (ranged c.held_by-was.result)
    (ranged c.held_by-is.result) c.held_by-was.ensures c.held_by-is.ensures c.if-same_held.ensures

pub returns : goal.returns
returns c =
    one_change c.args.old.now.rows c.args.new.now.rows c.requires.old c.requires.new c.args.id.now (ranged c.held_by-was.result)
    (ranged c.held_by-is.result) c.held_by-was.ensures c.held_by-is.ensures c.if-same_held.ensures
    (record { id = c.in_ok-id.id; before = c.span_of.result; after = c.span_of-2.result }) c.in_ok-id.ensures c.span_of.ensures c.span_of-2.ensures
